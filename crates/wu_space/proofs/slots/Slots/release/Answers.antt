use Rattle.std.proofs.Common.{◌≡◌, ◌<◌, suc, zero, List, length, ◌∙◌, subst}
use Rattle.wu_space.specs.declared.slots.Slot.{Slot}
use Rattle.wu_space.specs.Slots.{Parts}
use Rattle.wu_space.proofs.Released.{Releases-none, Releases-set}
use Rattle.wu_space.proofs.slots.Slots.release.Goals as goal

pub returns-in-Some : goal.returns-in-Some
returns-in-Some c =
    let same : c.as_slice.result.now ≡ c.args.self.now = c.as_slice.ensures.value ∙ c.self.view_is in
    let parts : Parts c.args.start c.args.self.now (suc c.in-Some.place) =
    subst (λ (l : List Slot). Parts c.args.start l (suc c.in-Some.place)) same c.in-Some.ensures.some in
    let within : c.in-Some.place < length c.args.self.now =
    subst (λ (l : List Slot). c.in-Some.place < length l) same c.in-Some.ensures.within in
    let d : Slot = record { start = 0; len = 0; ino = 0 } in
    rw (c.release_at.ensures d) (Releases-set c.args.start c.in-Some.place c.args.self.now d parts within)

pub returns-in_default : goal.returns-in_default
returns-in_default c =
    let same : c.as_slice.result.now ≡ c.args.self.now = c.as_slice.ensures.value ∙ c.self.view_is in
    Releases-none c.args.start c.args.self.now
    (subst (λ (l : List Slot). Parts c.args.start l zero) same c.in_default.ensures.none)
