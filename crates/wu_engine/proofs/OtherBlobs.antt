-- What a store has but for some blobs stays, call by call.
use Rattle.std.proofs.Common.{◌≡◌, inl, inr, ℕ, ◌<◌, ◌+◌, ◌≤◌, Bool, true, false, cond, List, refl, ap, sym, ◌∙◌, subst, arith, ⊎_elim}
use Rattle.std.specs.Prelude.{Option, Some, None, option_map}
use Rattle.std.proofs.lemmas.Bool.{ne_eqb}
use Rattle.wu_outside.specs.Content.{Content, with_blob}
use Rattle.wu_parts.specs.Contents.{Contents}
use Rattle.wu_engine.specs.Indexing.{KeepsParts, drawn_for, is_stored}
use Rattle.wu_engine.specs.Puts.{MayPut}
use Rattle.wu_engine.specs.Stands.{KeepsOthers}

pub others_same : (low high : ℕ) (told : Option Content) → KeepsOthers low high told told
others_same low high None = tt
others_same low high (Some content) = (λ blob h. refl, refl)

pub others_wider : (low high least most : ℕ) (before after : Option Content) → least ≤ low → high ≤ most → KeepsOthers low high before after
    → KeepsOthers least most before after
others_wider low high least most None None l h keeps = tt
others_wider low high least most None (Some after) l h keeps = keeps
others_wider low high least most (Some before) None l h keeps = keeps
others_wider low high least most (Some before) (Some after) l h keeps = (
  λ blob out. keeps.0 blob (⊎_elim (λ (a : blob < least). inl (omega arith)) (λ (b : most ≤ blob). inr (omega arith)) out),
  keeps.1,
)

pub others_then : (low high : ℕ) (before between after : Option Content) → KeepsOthers low high before between
    → KeepsOthers low high between after → KeepsOthers low high before after
others_then low high None None None a b = tt
others_then low high None None (Some after) a b = b
others_then low high None (Some between) after a b = absurd a
others_then low high (Some before) None after a b = absurd a
others_then low high (Some before) (Some between) None a b = b
others_then low high (Some before) (Some between) (Some after) a b =
    (λ blob out. b.0 blob out ∙ a.0 blob out, b.1 ∙ a.1)

put_keeps : (low high number : ℕ) (written : Option (List ℕ)) (told : Option Content) → low ≤ number → number < high
    → KeepsOthers low high told (option_map (with_blob number written) told)
put_keeps low high number written None l h = tt
put_keeps low high number written (Some content) l h = (
  λ blob out. ap (λ b. cond b written (content.blobs blob))
      (ne_eqb blob number (λ same. ⊎_elim (λ (a : blob < low). omega arith) (λ (b : high ≤ blob). omega arith) out)),
  refl,
)

pub others_put : (low high number : ℕ) (before after : Option Content) → low ≤ number → number < high
    → MayPut number before after → KeepsOthers low high before after
others_put low high number before after l h may =
    ⊎_elim
    (λ same. subst (KeepsOthers low high before) (sym same) (others_same low high before))
    (λ done. subst (KeepsOthers low high before) (sym done) (put_keeps low high number may.0 before l h))
    may.1

-- ---- a text's blob, and then a part's

pub record IsDrawn (old now : Contents) : Type 0 where
  pub least : old.next_blob ≤ now.next_blob
  pub most : now.next_blob ≤ old.next_blob + 1
  pub flushes : now.flushes ≡ old.flushes

one_or_none : (b : Bool) → cond {A = ℕ} b 1 0 ≤ 1
one_or_none true = omega arith
one_or_none false = omega arith

-- a blob was drawn where a text is stored, and then other things changed
pub drawn_once : (file : Option ℕ) (text : List ℕ) (old : Contents) {between now : Contents} → between ≡ drawn_for file text old
    → KeepsParts between now → IsDrawn old now
drawn_once file text old {now = now} drawn kept =
    let next : now.next_blob ≡ old.next_blob + cond {A = ℕ} (is_stored file text) 1 0 =
    ap (λ (c : Contents). c.next_blob) kept ∙ ap (λ (c : Contents). c.next_blob) drawn in
    let flushes : now.flushes ≡ old.flushes = ap (λ (c : Contents). c.flushes) kept ∙ ap (λ (c : Contents). c.flushes) drawn in
    record {
      least = omega (arith, next);
      most = omega (arith, next, one_or_none (is_stored file text));
      flushes = flushes;
    }

pub others_twice : {old now : Contents} {before between : Option Content} (after : Option Content) → IsDrawn old now
    → MayPut old.next_blob before between
    → KeepsOthers now.next_blob (now.next_blob + 1) between after → KeepsOthers old.next_blob (old.next_blob + 2) before after
others_twice {old} {now} {before} {between} after drawn first second =
    others_then old.next_blob (old.next_blob + 2) before between after
    (others_put old.next_blob (old.next_blob + 2) old.next_blob before between (omega arith) (omega arith) first)
    (others_wider now.next_blob (now.next_blob + 1) old.next_blob (old.next_blob + 2) between after drawn.least
    (omega (arith, drawn.most)) second)

pub others_once : (old : Contents) {before after : Option Content}
    → MayPut old.next_blob before after
    → KeepsOthers old.next_blob (old.next_blob + 2) before after
others_once old {before} {after} first =
    others_put old.next_blob (old.next_blob + 2) old.next_blob before after (omega arith) (omega arith) first
