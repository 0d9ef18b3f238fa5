use Rattle.std.proofs.Common.{◌∙◌, sym, ap, length}
use Rattle.std.specs.Prelude.{slice_get}
use Rattle.std.specs.Option.{option_map}
use Rattle.std.specs.Map.Iter.{TakesFirst, deref}
use Rattle.std.proofs.lemmas.Iterator.Consumers.{YieldsList-from_shown, nth_from_yields_List}
use Rattle.std.proofs.lemmas.Option.{slice_get-map}
use Rattle.wu_access.specs.declared.UserRec.{UserRec}
use Rattle.wu_tree.proofs.UserGroups.{users_by_value, map_through}
use Rattle.wu_tree.proofs.trees.Tree.user_at.Goals as goal

pub returns : goal.returns
returns c =
    let item = nth_from_yields_List c.nth.result c.nth.new.self c.args.i c.nth.ensures.ran
    (YieldsList-from_shown (TakesFirst deref) deref (λ s. s) (λ s t h. ap length h.0) (λ s x t h. h) c.values.result) in
    rw (← c.self.view_is)
    (map_through deref (λ (u : UserRec). (u.uid, u.groups)) c.nth.result
    ∙ ap (option_map (λ (u : UserRec). (u.uid, u.groups))) (item ∙ ap (λ vs. slice_get vs c.args.i) c.values.ensures.rest)
    ∙ sym (slice_get-map (λ (u : UserRec). (u.uid, u.groups)) _ c.args.i)
    ∙ ap (λ us. slice_get us c.args.i) (users_by_value c.self.inside.users.entries c.self.invariant.keyed))
