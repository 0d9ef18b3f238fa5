-- What is known of a store that tells its content.
use Rattle.std.proofs.Common.{◌≡◌, subst}
use Rattle.std.specs.Prelude.{Option, None, Some, IfSome}
use Rattle.wu_outside.specs.Content.{Content}

pub told_more : {P Q : Content → Type 0} (holds : Option Content) → ((content : Content) → P content → Q content) → IfSome holds P
    → IfSome holds Q
told_more None f p = tt
told_more (Some content) f p = f content p

pub told_both : {P Q R : Content → Type 0} (holds : Option Content) → ((content : Content) → P content → Q content → R content)
    → IfSome holds P → IfSome holds Q → IfSome holds R
told_both None f p q = tt
told_both (Some content) f p q = f content p q

-- what is told now was told before
pub told_before : (P : Content → Type 0) (old new : Option Content) → new ≡ old → IfSome new P → IfSome old P
told_before P old new same p = subst (λ (h : Option Content). IfSome h P) same p
