-- The whole batch: nobody finds more at any moment, and the last event leaves what was found.
use Rattle.std.proofs.Common.{◌≡◌, ◌≢◌, ℕ, List, [], ◌∷◌, ◌++◌, refl, ap, subst, sym, ◌∙◌, true, false, ⊎_elim}
use Rattle.std.proofs.Common.{append_assoc}
use Rattle.std.specs.Prelude.{◌==◌, None, Some}
use Rattle.std.specs.List.{AllByRecursion}
use borrow.Author.Tests.{eq-eqb}
use Rattle.wu_access.specs.Access.{IsDecidedByCases}
use Rattle.wu_tree.specs.declared.events.Event.{Event}
use Rattle.wu_tree.specs.FileSystems.{FileSystem, acl_of, child_of, is_there, node_of}
use Rattle.wu_tree.specs.Steps.{next}
use Rattle.wu_view.proofs.LinkPaths.{link_facts}
use Rattle.wu_mirror.specs.declared.batches.Batch.{Batch}
use Rattle.wu_mirror.specs.Plans.{head_of, placed_in, removed_in, tail_of, taken_in}
use Rattle.wu_mirror.specs.Moments.{AgreesOutside, AtEach, AtLast, FindsNoMore, FindsNoNewText, IsText, LeadsTo, ShowsNoMore, StandsOutside}
use Rattle.wu_mirror.specs.Moments.{TellsAllNames, is_told}
use Rattle.wu_mirror.proofs.AllNames.{all_back, placed_are_ins}
use Rattle.wu_mirror.proofs.Arrivals.{in_all}
use Rattle.wu_mirror.proofs.Coming.{Coming, from_middle, texts_given, told}
use Rattle.wu_mirror.proofs.Giving.{Giving, giving_shows, rights_given}
use Rattle.wu_mirror.proofs.Gone.{never, none_if, up_to_the_middle}
use Rattle.wu_mirror.proofs.Parts.{node_there}
use Rattle.wu_mirror.proofs.Removing.{Held}
use Rattle.wu_mirror.proofs.Taking.{truth}
use Rattle.wu_mirror.proofs.ViewGrowth.{directory_there, link_found}

-- ---- from the first event to the last, and what is made of the last
module _ (law : IsDecidedByCases) (batch : Batch) (before after : FileSystem) (l : LeadsTo batch before after) (uid : ℕ) (u : uid ≢ 0)
    (texts : List Event) (are_texts : AllByRecursion IsText texts) (Last : FileSystem → Type 0)
    (finish : (fs : FileSystem) → Giving law batch before after l uid u Last 2 [] fs → Last fs) where
  abbrev pub Texted : FileSystem → Type 0
  Texted fs = AtEach (λ m. FindsNoMore uid m after) Last fs (tail_of batch)

  abbrev pub Middle : FileSystem → Type 0
  Middle fs = AtEach (λ m. FindsNoMore uid m after × FindsNoNewText batch.changes uid m) Texted fs (placed_in batch ++ texts)

  held_again : (m : FileSystem) → Held law batch before after l uid u Middle m → Held law batch before after l uid u Texted m
  held_again m h = record {
    tree = h.tree;
    names = h.names;
    stays = h.stays;
    aside = h.aside;
    nodes = record { rights = h.nodes.rights; lists = h.nodes.lists };
    done = h.done;
    users = h.users;
    shown = h.shown;
  }

  coming_again : (m : FileSystem) → Coming law batch before after l uid u Texted m → Coming law batch before after l uid u Last m
  coming_again m c = record {
    tree = c.tree;
    part = c.part;
    users = c.users;
    stays = c.stays;
    rest = c.rest;
    aside = c.aside;
    ready = c.ready;
  }

  pub in_three : AtEach (λ fs. FindsNoMore uid fs before) Middle before (taken_in batch ++ removed_in batch)
  in_three =
      up_to_the_middle law batch before after l uid u Middle
      (λ m held gone.
      in_all law batch before after l uid u Texted (placed_in batch) (placed_are_ins law batch before after l uid u Texted) m texts
      (from_middle law batch before after l uid u Texted m (held_again m held) gone)
      (λ to coming grows filled. texts_given law batch before after l uid u Texted texts are_texts to coming
      (rights_given law batch before after l uid u Last finish to (coming_again to coming)
      (all_back law batch before after l uid u Texted to coming filled))))

-- ---- nobody finds more
module _ (law : IsDecidedByCases) (batch : Batch) (before after : FileSystem) (l : LeadsTo batch before after) (uid : ℕ) (u : uid ≢ 0)
    (texts : List Event) (are_texts : AllByRecursion IsText texts) where
  pub shows_no_more : ShowsNoMore batch texts before after uid
  shows_no_more =
      in_three law batch before after l uid u texts are_texts (λ fs. FindsNoMore uid fs after)
      (λ fs g. giving_shows law batch before after l uid u (λ m. FindsNoMore uid m after) 2 [] fs g)

-- ---- the last event leaves what was found
-- what holds at the end of the one and of the other
last_of : (Holds End : FileSystem → Type 0) (events rest : List Event) (fs : FileSystem) → AtEach Holds (λ m. AtLast End m rest) fs events
    → AtLast End fs (events ++ rest)
last_of Holds End [] rest fs a = a
last_of Holds End (event ∷ events) rest fs a = λ v ok. last_of Holds End events rest (next fs event) (a.1 v ok)

last_alone : (Holds End : FileSystem → Type 0) (events : List Event) (fs : FileSystem) → AtEach Holds End fs events → AtLast End fs events
last_alone Holds End [] fs a = a
last_alone Holds End (event ∷ events) fs a = λ v ok. last_alone Holds End events (next fs event) (a.1 v ok)

at_end : (Holds End Other : FileSystem → Type 0) (events : List Event) → ((fs : FileSystem) → End fs → Other fs) → (fs : FileSystem)
    → AtEach Holds End fs events
    → AtEach Holds Other fs events
at_end Holds End Other [] f fs a = f fs a
at_end Holds End Other (event ∷ events) f fs a = (a.0, λ v ok. at_end Holds End Other events f (next fs event) (a.1 v ok))

-- user 1 stands for all: what is left is the same for each
module _ (law : IsDecidedByCases) (batch : Batch) (before after : FileSystem) (l : LeadsTo batch before after) (w : TellsAllNames batch before after)
    (texts : List Event) (are_texts : AllByRecursion IsText texts) where
  abbrev Agrees : FileSystem → Type 0
  Agrees fs = AgreesOutside fs after

  abbrev one : ℕ
  one = 1

  other : one ≢ 0
  other e = let t : (one == 0) ≡ true = eq-eqb one 0 e in cc

  abbrev Given : FileSystem → Type 0
  Given fs = Giving law batch before after l 1 other Agrees 2 [] fs

  same_names : (fs : FileSystem) → Given fs → (d : ℕ) (n : List ℕ) → d ≢ 2 → child_of fs d n ≡ child_of after d n
  same_names fs g d n a =
      elim (child_of after d n) as (λ o. child_of after d n ≡ o → child_of fs d n ≡ o) [
        | None ↦ λ e. none_if (child_of fs d n) (λ x f. never (child_of after d n) x e (g.part.names d n x a f))
        | Some x ↦ λ e. g.back w d n x a e
      ] refl

  there_after : (q : ℕ) → StandsOutside after q → is_there after q ≡ true
  there_after q s =
      ⊎_elim (λ e. subst (λ x. is_there after x ≡ true) (sym e) (directory_there (node_of after 1) l.to.root))
      (λ p. (link_facts after l.to ((p.0, p.1), q) (link_found after p.0 p.1 q p.3)).child) s

  there_now : (fs : FileSystem) → Given fs → (q : ℕ) → StandsOutside after q → is_there fs q ≡ true
  there_now fs g q s =
      ⊎_elim (λ e. subst (λ x. is_there fs x ≡ true) (sym e) (directory_there (node_of fs 1) g.tree.root))
      (λ p. (link_facts fs g.tree ((p.0, p.1), q) (link_found fs p.0 p.1 q (g.back w p.0 p.1 q p.2 p.3))).child) s

  abbrev SameNode : FileSystem → ℕ → Type 0
  SameNode fs q = (node_of fs q ≡ node_of after q) × (acl_of fs q ≡ acl_of after q)

  same_nodes : (fs : FileSystem) → Given fs → (q : ℕ) → StandsOutside after q → SameNode fs q
  same_nodes fs g q s =
      let f = node_there (node_of fs q) (there_now fs g q s) in
      elim (is_told batch.changes q) as (λ b. is_told batch.changes q ≡ b → SameNode fs q) [
        | true ↦ λ t.
            let r = told law batch before after l 1 other Agrees q t in
            let c = r.0 in
            let h = r.1 in
            let at : node_of fs c.ino ≡ Some f.0 = ap (node_of fs) r.2 ∙ f.1 in
            let there : is_there after c.ino ≡ true = subst (λ x. is_there after x ≡ true) (sym r.2) (there_after q s) in
            let z = ⊎_elim (λ n. absurd n) (λ i. i) (g.set c h (truth law batch before after l 1 other Agrees c h).apart) there f.0 at in
            subst (λ x. SameNode fs x) r.2 (at ∙ sym z.0, z.1)
        | false ↦ λ t.
            let r = g.rest q f.0 t f.1 in
            let i = l.nodes q t (there_after q s) in
            (f.1 ∙ sym r.0 ∙ sym i.0, r.1 ∙ sym i.1)
      ] refl

  agrees : (fs : FileSystem) → Given fs → Agrees fs
  agrees fs g = record { users = g.users; names = same_names fs g; nodes = same_nodes fs g }

  pub leaves_what_it_tells : AtLast Agrees before (head_of batch ++ texts ++ tail_of batch)
  leaves_what_it_tells =
      let first : List Event = taken_in batch ++ removed_in batch in
      let second : List Event = placed_in batch ++ texts in
      let Shown : FileSystem → Type 0 = (λ (fs : FileSystem). FindsNoMore 1 fs before) in
      let New : FileSystem → Type 0 = (λ (fs : FileSystem). FindsNoMore 1 fs after × FindsNoNewText batch.changes 1 fs) in
      let Then : FileSystem → Type 0 = (λ (fs : FileSystem). FindsNoMore 1 fs after) in
      subst (λ (events : List Event). AtLast Agrees before events)
      (in_line (taken_in batch) (removed_in batch) (placed_in batch) texts (tail_of batch))
      (last_of Shown Agrees first (second ++ tail_of batch) before
      (at_end Shown (Middle law batch before after l 1 other texts are_texts Agrees agrees) (λ m. AtLast Agrees m (second ++ tail_of batch)) first
      (λ m a. last_of New Agrees second (tail_of batch) m
      (at_end New (Texted law batch before after l 1 other texts are_texts Agrees agrees) (λ x. AtLast Agrees x (tail_of batch)) second
      (λ x b. last_alone Then Agrees (tail_of batch) x b) m a))
      before (in_three law batch before after l 1 other texts are_texts Agrees agrees)))
    where
      in_line : (a b c d e : List Event) → (a ++ b) ++ ((c ++ d) ++ e) ≡ a ++ b ++ c ++ d ++ e
      in_line a b c d e = sym (append_assoc (a ++ b) (c ++ d) e) ∙ ap (λ (x : List Event). x ++ e) (sym (append_assoc (a ++ b) c d))
