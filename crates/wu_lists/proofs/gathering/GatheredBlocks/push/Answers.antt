use Rattle.std.proofs.Common.{◌≡◌, ◌++◌, ◌-◌, ◌^◌, ℕ, List, length, min, refl, ap, ap₂, sym, ◌∙◌, subst, arith, rules, length-append}
use Rattle.wu_base.proofs.Results.{on_err}
use Rattle.wu_lists.specs.Gathering.{addresses_in}
use Rattle.wu_lists.specs.declared.blocks.Block.{Block}
use Rattle.wu_lists.proofs.Copies.{addresses-copied, addresses-longer, copied-longer, copied-push}
use Rattle.wu_lists.proofs.gathering.GatheredBlocks.push.Goals as goal

pub invariant_of-self-in_err-push : goal.invariant_of-self-in_err-push
invariant_of-self-in_err-push c =
    let bytes : List ℕ = c.self.inside.bytes.items in
    let blocks : List Block = c.self.inside.blocks.items in
    rw (c.in_err-push.ensures.items, c.in_ok-extend_from_slice.ensures.items) (
      copied-longer bytes c.args.bytes.now blocks c.self.invariant.0,
      c.self.invariant.1 ∙ ap (λ (l : List ℕ). min (length l) (2 ^ 64 - 1))
          (sym (addresses-longer bytes c.args.bytes.now blocks c.self.invariant.0)),
    )

pub returns-in_err-push-clause-err : goal.returns-in_err-push-clause-err
returns-in_err-push-clause-err c =
    let bytes : List ℕ = c.self.inside.bytes.items in
    let blocks : List Block = c.self.inside.blocks.items in
    on_err c.from_residual-in_err-push.result
    (ap₂ addresses_in c.in_ok-extend_from_slice.ensures.items c.in_err-push.ensures.items
    ∙ addresses-longer bytes c.args.bytes.now blocks c.self.invariant.0 ∙ c.self.view_is)

pub invariant_of-self-2 : goal.invariant_of-self-2
invariant_of-self-2 c =
    let bytes : List ℕ = c.self.inside.bytes.items in
    let begin : c.len.result ≡ length bytes = search rules in
    let blocks : List Block = c.self.inside.blocks.items in
    let are = c.self.invariant.0 in
    rw (c.in_ok-push.ensures.items, c.in_ok-extend_from_slice.ensures.items) (
      copied-push bytes c.args.bytes.now blocks c.args.block.now _ begin refl refl refl refl refl are c.requires.0 c.requires.1,
      subst (λ (l : List ℕ). c.saturating_add-self-inside.result ≡ min (length l) (2 ^ 64 - 1))
          (sym (addresses-copied bytes c.args.bytes.now blocks c.args.block.now _ begin refl refl refl refl refl are c.requires.0 c.requires.1))
          (omega (
            arith,
            c.self.invariant.1,
            length-append (addresses_in bytes blocks) c.requires.0,
            c.requires.1.span.number,
            c.saturating_add-self-inside.ensures,
          )),
    )

pub returns-clause-ok : goal.returns-clause-ok
returns-clause-ok c = λ addresses spelled.
    let bytes : List ℕ = c.self.inside.bytes.items in
    let begin : c.len.result ≡ length bytes = search rules in
    let blocks : List Block = c.self.inside.blocks.items in
    ap₂ addresses_in c.in_ok-extend_from_slice.ensures.items c.in_ok-push.ensures.items
    ∙ addresses-copied bytes c.args.bytes.now blocks c.args.block.now _ begin refl refl refl refl refl c.self.invariant.0 addresses spelled
    ∙ ap (λ (l : List ℕ). l ++ addresses) c.self.view_is
