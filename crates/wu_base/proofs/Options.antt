-- What an option is where a function of it is.
use Rattle.std.proofs.Common.{◌≡◌, Bool, false, true, cond, Option, Some, None, is_some, option_map, refl}

pub mapped_none : {X Y : Type 0} (f : X → Y) (o : Option X) → option_map f o ≡ None → o ≡ None
mapped_none f None e = refl
mapped_none f (Some x) e = absurd cc

pub mapped_some : {X Y : Type 0} (f : X → Y) (o : Option X) → is_some (option_map f o) ≡ is_some o
mapped_some f None = refl
mapped_some f (Some x) = refl

pub not_some : {X : Type 0} (o : Option X) → is_some o ≡ false → o ≡ None
not_some None e = refl
not_some (Some x) e = absurd cc

pub none_either_way : {X : Type 0} (b : Bool) → cond {A = Option X} b None None ≡ None
none_either_way true = refl
none_either_way false = refl
