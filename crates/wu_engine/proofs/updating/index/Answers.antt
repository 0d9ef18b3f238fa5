use Rattle.std.proofs.Common.{◌≡◌, ℕ, ◌+◌, [], length, length-append, ◌∙◌, ap, subst, arith}
use Rattle.std.proofs.lemmas.Result.{on_ok_weaker}
use Rattle.wu_space.specs.Addresses.{Addresses}
use Rattle.wu_parts.specs.Memory.{Memory, Gains}
use Rattle.wu_engine.specs.Indexing.{Catalog, terms_given}
use Rattle.wu_engine.proofs.IndexLemmas.{gains_twice, next-with_file, next-without_file}
use Rattle.wu_engine.proofs.updating.index.Goals as goal

pub returns-clause-memory : goal.returns-clause-memory
returns-clause-memory c =
    let effect = c.args.effect in
    let text = c.args.text.now in
    let old = c.args.space.now in
    let left : Addresses = c.release.new.space in
    let made : Addresses = c.place_text.new.space in
    let again : Addresses = c.release-2.new.space in
    let before : Memory = c.args.parts.now.memory in
    let between : Memory = c.place_text.new.parts.memory in
    let after : Memory = c.place_text-2.new.parts.memory in
    let a : left.next ≡ old.next =
    ap (λ (k : Catalog). k.space.next) c.in_ok-release.ensures.catalog ∙ next-without_file effect.dropped old in
    let b : made.next ≡ left.next + length (terms_given effect.made []) =
    ap (λ (k : Catalog). k.space.next) c.in_ok-place_text.ensures.catalog ∙ next-with_file effect.made [] left in
    let d : again.next ≡ made.next =
    ap (λ (k : Catalog). k.space.next) c.in_ok-release-2.ensures.catalog ∙ next-without_file effect.texted made in
    let e : again.next ≡ old.next + length (terms_given effect.made []) = omega arith in
    let first : Gains left.next (terms_given effect.made []) before between =
    subst (λ (m : Memory). Gains left.next (terms_given effect.made []) m between) c.in_ok-release.ensures.memory c.in_ok-place_text.ensures.memory in
    on_ok_weaker c.place_text-2.result
    (λ (h : Gains again.next (terms_given effect.texted text) c.release-2.new.parts.memory after).
    gains_twice old.next (terms_given effect.made []) (terms_given effect.texted text) before between after
    (subst (λ (n : ℕ). Gains n (terms_given effect.made []) before between) a first)
    (subst (λ (n : ℕ). Gains n (terms_given effect.texted text) between after) e
    (subst (λ (m : Memory). Gains again.next (terms_given effect.texted text) m after) c.in_ok-release-2.ensures.memory h)))
    c.place_text-2.ensures.memory

-- ---- the addresses

pub returns-in_err-release-clause-taken : goal.returns-in_err-release-clause-taken
returns-in_err-release-clause-taken c = omega (arith, c.release.ensures.next)

pub returns-in_err-place_text-clause-taken : goal.returns-in_err-place_text-clause-taken
returns-in_err-place_text-clause-taken c =
    omega (
      arith,
      c.release.ensures.next,
      c.place_text.ensures.taken,
      length-append (terms_given c.args.effect.made []) (terms_given c.args.effect.texted c.args.text.now),
    )

pub returns-in_err-release-2-clause-taken : goal.returns-in_err-release-2-clause-taken
returns-in_err-release-2-clause-taken c =
    omega (
      arith,
      c.release.ensures.next,
      c.place_text.ensures.taken,
      c.release-2.ensures.next,
      length-append (terms_given c.args.effect.made []) (terms_given c.args.effect.texted c.args.text.now),
    )

pub returns-clause-taken : goal.returns-clause-taken
returns-clause-taken c =
    omega (
      arith,
      c.release.ensures.next,
      c.place_text.ensures.taken,
      c.release-2.ensures.next,
      c.place_text-2.ensures.taken,
      length-append (terms_given c.args.effect.made []) (terms_given c.args.effect.texted c.args.text.now),
    )
