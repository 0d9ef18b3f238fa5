use Rattle.std.proofs.Common.{ℕ, Bool, cond, ap, refl, subst}
use Rattle.std.proofs.lemmas.Bool.{ne_eqb}
use Rattle.wu_outside.specs.Content.{with_blob}
use Rattle.wu_image.specs.Images.{Names}
use Rattle.wu_image.proofs.ImageLemmas.{image_kept}
use Rattle.wu_image.proofs.laws.other_blobs_count_for_nothing.Goals as goal

pub returns-clause-same : goal.returns-clause-same
returns-clause-same c content other tree texts layout image root same = image_kept content other tree texts layout image root same

pub returns-clause-changed : goal.returns-clause-changed
returns-clause-changed c content tree texts layout blob bytes image none =
    image_kept content (with_blob blob bytes content) tree texts layout image refl
    (λ named n.
    let differs = ne_eqb named blob (λ e. none (subst (λ (b : ℕ). Names layout b) e n)) in
    ap (λ (b : Bool). cond b bytes (content.blobs named)) differs)
