-- Which blocks are kept after one was asked for.
use Rattle.std.proofs.Common.{◌≡◌, ℕ, zero, suc, ◌+◌, ◌-◌, ◌<◌, ◌≤◌, ◌==◌, Bool, true, false, cond, List, [], ◌∷◌, filter, length, take}
use Rattle.std.proofs.Common.{refl, ap, sym, ◌∙◌, subst, arith}
use Rattle.std.specs.Prelude.{Option, None, Some, is_some, not, slice_get, ◌||◌}
use Rattle.std.specs.Option.{option_map_or}
use Rattle.std.specs.List.{AllByRecursion, IsDistinct, list_any}
use Rattle.std.specs.Map.{keys_of, lookup, lookup_entry, remove_entry}
use Rattle.std.proofs.lemmas.Bool.{eqb-true, and_parts}
use Rattle.std.proofs.lemmas.List.{take_all}
use Rattle.std.proofs.lemmas.Map.Entries.{length-keys_of}
use Rattle.lru.specs.LruCache.{LruCache, promoted, put_entries}
use Rattle.lru.proofs.CallerLemmas.{Contains-lookup_entry}
use Rattle.wu_base.proofs.Members.{Has-from_Contains, all_has}
use Rattle.wu_base.proofs.MapEntries.{All-remove_entry}
use Rattle.wu_lists.specs.declared.blocks.Block.{Block}
use Rattle.wu_lists.specs.Keeping.{IsChecked, asked, is_same, missing}

-- ---- equal blocks

fields_same : (a b : Block) → a.blob ≡ b.blob → a.low ≡ b.low → a.count ≡ b.count → a.first ≡ b.first → a.last ≡ b.last → a.at ≡ b.at
    → a.len ≡ b.len → a ≡ b
fields_same a b blob low count first last place len =
    let make : ℕ → ℕ → ℕ → ℕ → ℕ → ℕ → ℕ → Block = λ u v w x y z n.
    record { blob = u; low = v; count = w; first = x; last = y; at = z; len = n } in
    ap (λ x. make x a.low a.count a.first a.last a.at a.len) blob
    ∙ (ap (λ x. make b.blob x a.count a.first a.last a.at a.len) low
    ∙ (ap (λ x. make b.blob b.low x a.first a.last a.at a.len) count
    ∙ (ap (λ x. make b.blob b.low b.count x a.last a.at a.len) first
    ∙ (ap (λ x. make b.blob b.low b.count b.first x a.at a.len) last
    ∙ (ap (λ x. make b.blob b.low b.count b.first b.last x a.len) place
    ∙ ap (λ x. make b.blob b.low b.count b.first b.last b.at x) len)))))

pub same-blocks : (a b : Block) → is_same a b ≡ true → a ≡ b
same-blocks a b e =
    let blob = and_parts (a.blob == b.blob) _ e in
    let low = and_parts (a.low == b.low) _ blob.1 in
    let count = and_parts (a.count == b.count) _ low.1 in
    let first = and_parts (a.first == b.first) _ count.1 in
    let last = and_parts (a.last == b.last) _ first.1 in
    let place = and_parts (a.at == b.at) _ last.1 in
    fields_same a b (eqb-true _ _ blob.0) (eqb-true _ _ low.0) (eqb-true _ _ count.0) (eqb-true _ _ first.0) (eqb-true _ _ last.0)
    (eqb-true _ _ place.0) (eqb-true _ _ place.1)

-- ---- entries by key

module _ {K X : Type 0} (t : K → Bool) where
  pub any-key : (es : List (K × X)) → list_any t (keys_of es) ≡ is_some (lookup t es)
  any-key [] = refl
  any-key (e ∷ es) =
      elim (t e.0) as (λ b. (b || list_any t (keys_of es)) ≡ is_some (cond b (Some e.1) (lookup t es))) [
        | true ↦ refl
        | false ↦ any-key es
      ]

  lookup-entry : (es : List (K × X)) (e : K × X) → lookup_entry t es ≡ Some e → lookup t es ≡ Some e.1
  lookup-entry [] e h = absurd (cc)
  lookup-entry (f ∷ es) e h =
      elim (t f.0) as (λ b. cond b (Some f) (lookup_entry t es) ≡ Some e → cond b (Some f.1) (lookup t es) ≡ Some e.1) [
        | true ↦ λ g. ap (λ (o : Option (K × X)). option_map_or (λ (p : K × X). Some p.1) o None) g
        | false ↦ λ g. lookup-entry es e g
      ] h

  no-entry : (es : List (K × X)) → lookup_entry t es ≡ None → lookup t es ≡ None
  no-entry [] h = refl
  no-entry (f ∷ es) h =
      elim (t f.0) as (λ b. cond b (Some f) (lookup_entry t es) ≡ None → cond b (Some f.1) (lookup t es) ≡ None) [
        | true ↦ λ g. absurd (cc)
        | false ↦ λ g. no-entry es g
      ] h

  -- the entry that is found is there, and its key passes
  passes : (es : List (K × X)) (e : K × X) → lookup_entry t es ≡ Some e → t e.0 ≡ true
  passes es e h = (Contains-lookup_entry t es e h).1

  pub promoted-none : (es : List (K × X)) → is_some (lookup t es) ≡ false → promoted t es ≡ es
  promoted-none es n =
      elim (lookup_entry t es) as
      (λ o. lookup_entry t es ≡ o → option_map_or (λ (e : K × X). e ∷ remove_entry t es) o es ≡ es) [
        | None ↦ λ h. refl
        | Some e ↦ λ h. absurd (
            let found : is_some (lookup t es) ≡ true = ap (λ (o : Option X). is_some o) (lookup-entry es e h) in
            let never : true ≡ false = sym found ∙ n in
            cc)
      ] refl

  -- ---- what holds of each entry

  module _ (P : K × X → Type 0) where
    pub all-promoted : (es : List (K × X)) → AllByRecursion P es → AllByRecursion P (promoted t es)
    all-promoted es a =
        elim (lookup_entry t es) as
        (λ o. lookup_entry t es ≡ o → AllByRecursion P (option_map_or (λ (e : K × X). e ∷ remove_entry t es) o es)) [
          | None ↦ λ h. a
          | Some e ↦ λ h.
              let there = Contains-lookup_entry t es e h in
              (all_has P e es a (Has-from_Contains e es there.0), All-remove_entry P t es a)
        ] refl

    pub all-take : (n : ℕ) (es : List (K × X)) → AllByRecursion P es → AllByRecursion P (take n es)
    all-take zero es a = tt
    all-take (suc n) [] a = tt
    all-take (suc n) (e ∷ es) a = (a.0, all-take n es a.1)

-- ---- keys of blocks

module _ (block : Block) where
  -- where none is the block, all are others
  all-others : (keys : List Block) → AllByRecursion (λ key. is_same block key ≡ false) keys
      → filter (λ other. not (is_same block other)) keys ≡ keys
  all-others [] a = refl
  all-others (key ∷ keys) a = rw a.0 (ap (λ (ks : List Block). key ∷ ks) (all-others keys a.1))

  take-first : (cap : ℕ) (keys : List Block) → 0 < cap → block ∷ take (cap - 1) keys ≡ take cap (block ∷ keys)
  take-first zero keys some = absurd (omega arith)
  take-first (suc n) keys some =
      let same : suc n - 1 ≡ n = omega arith in
      ap (λ (m : ℕ). block ∷ take m keys) same

module _ {X : Type 0} (block : Block) where
  none-same : (es : List (Block × X)) → lookup_entry (is_same block) es ≡ None
      → AllByRecursion (λ key. is_same block key ≡ false) (keys_of es)
  none-same [] h = tt
  none-same (e ∷ es) h =
      elim (is_same block e.0) as
      (λ b. is_same block e.0 ≡ b → cond b (Some e) (lookup_entry (is_same block) es) ≡ None
      → (is_same block e.0 ≡ false) × AllByRecursion (λ key. is_same block key ≡ false) (keys_of es)) [
        | true ↦ λ q g. absurd (cc)
        | false ↦ λ q g. (q, none-same es g)
      ] refl h

  keys-removed : (es : List (Block × X)) → IsDistinct is_same (keys_of es)
      → keys_of (remove_entry (is_same block) es) ≡ filter (λ other. not (is_same block other)) (keys_of es)
  unfolding IsDistinct
  keys-removed [] d = refl
  keys-removed (e ∷ es) d =
      elim (is_same block e.0) as
      (λ b. is_same block e.0 ≡ b → keys_of (cond b es (e ∷ remove_entry (is_same block) es))
      ≡ cond (not b) (e.0 ∷ filter (λ other. not (is_same block other)) (keys_of es))
      (filter (λ other. not (is_same block other)) (keys_of es))) [
        | true ↦ λ q.
            sym (all-others block (keys_of es)
            (subst (λ (k : Block). AllByRecursion (λ key. is_same k key ≡ false) (keys_of es)) (sym (same-blocks block e.0 q)) d.0))
        | false ↦ λ q. ap (λ (ks : List Block). e.0 ∷ ks) (keys-removed es d.1)
      ] refl

  length-removed : (es : List (Block × X)) (e : Block × X) → lookup_entry (is_same block) es ≡ Some e
      → length (keys_of (remove_entry (is_same block) es)) + 1 ≡ length es
  length-removed [] e h = absurd (cc)
  length-removed (f ∷ es) e h =
      elim (is_same block f.0) as
      (λ b. cond b (Some f) (lookup_entry (is_same block) es) ≡ Some e
      → length (keys_of (cond b es (f ∷ remove_entry (is_same block) es))) + 1 ≡ suc (length es)) [
        | true ↦ λ g. let n = length-keys_of es in omega arith
        | false ↦ λ g. let r = length-removed es e g in omega arith
      ] h

  -- a block that is kept and is asked for goes first
  pub keys-promoted : (cap : ℕ) (es : List (Block × X)) → IsDistinct is_same (keys_of es) → length es ≤ cap
      → true ≡ is_some (lookup (is_same block) es) → keys_of (promoted (is_same block) es) ≡ asked cap (keys_of es) block
  keys-promoted cap es d few there =
      elim (lookup_entry (is_same block) es) as
      (λ o. lookup_entry (is_same block) es ≡ o
      → keys_of (option_map_or (λ (e : Block × X). e ∷ remove_entry (is_same block) es) o es) ≡ asked cap (keys_of es) block) [
        | None ↦ λ h. absurd (let none = no-entry (is_same block) es h in
            let f : true ≡ false = there ∙ ap (λ (o : Option X). is_some o) none in cc)
        | Some e ↦ λ h.
            let key : block ≡ e.0 = same-blocks block e.0 (passes (is_same block) es e h) in
            let rest : List Block = keys_of (remove_entry (is_same block) es) in
            let n : length rest + 1 ≡ length es = length-removed es e h in
            ap (λ (k : Block). k ∷ rest) (sym key)
            ∙ sym (take_all cap (block ∷ rest) (omega arith))
            ∙ ap (λ (ks : List Block). take cap (block ∷ ks)) (keys-removed es d)
      ] refl

  keys-take : (n : ℕ) (es : List (Block × X)) → keys_of (take n es) ≡ take n (keys_of es)
  keys-take zero es = refl
  keys-take (suc n) [] = refl
  keys-take (suc n) (e ∷ es) = ap (λ (ks : List Block). e.0 ∷ ks) (keys-take n es)

  no-entry-from_any : (es : List (Block × X)) → list_any (is_same block) (keys_of es) ≡ false → lookup_entry (is_same block) es ≡ None
  no-entry-from_any [] h = refl
  no-entry-from_any (e ∷ es) h =
      elim (is_same block e.0) as
      (λ b. (b || list_any (is_same block) (keys_of es)) ≡ false → cond b (Some e) (lookup_entry (is_same block) es) ≡ None) [
        | true ↦ λ g. absurd (cc)
        | false ↦ λ g. no-entry-from_any es g
      ] h

  -- a block that isn't kept and is put in goes first, and the last one goes where there are too many
  pub keys-put : (cache : LruCache Block X) (v : X) → 0 < cache.cap → list_any (is_same block) (keys_of cache.entries) ≡ false
      → keys_of (put_entries is_same cache block v) ≡ asked cache.cap (keys_of cache.entries) block
  keys-put cache v some none =
      let no : lookup_entry (is_same block) cache.entries ≡ None = no-entry-from_any cache.entries none in
      let rest : List Block = keys_of cache.entries in
      rw no
      (ap (λ (ks : List Block). block ∷ ks) (keys-take (cache.cap - 1) cache.entries)
      ∙ take-first block cache.cap rest some
      ∙ ap (λ (ks : List Block). take cache.cap (block ∷ ks)) (sym (all-others block rest (none-same cache.entries no))))

  pub all-put : (P : Block × X → Type 0) (cache : LruCache Block X) (v : X) → list_any (is_same block) (keys_of cache.entries) ≡ false
      → P (block, v) → AllByRecursion P cache.entries → AllByRecursion P (put_entries is_same cache block v)
  all-put P cache v none p a =
      let no : lookup_entry (is_same block) cache.entries ≡ None = no-entry-from_any cache.entries none in
      rw no (p, all-take (is_same block) P (cache.cap - 1) cache.entries a)

-- ---- which block is read

pub missing-none : (kept : List Block) (block : Block) → list_any (is_same block) kept ≡ true → missing kept block ≡ []
missing-none kept block e = rw e refl

pub missing-one : (kept : List Block) (block : Block) → list_any (is_same block) kept ≡ false → missing kept block ≡ block ∷ []
missing-one kept block e = rw e refl

-- ---- the block that was asked for last

module _ (block : Block) (entries : List (Block × List ℕ)) (cap : ℕ) (older : List Block) (some : 0 < cap)
    (keys : keys_of entries ≡ asked cap older block) where
  first_key : keys_of entries ≡ block ∷ take (cap - 1) (filter (λ other. not (is_same block other)) older)
  first_key = keys ∙ sym (take-first block cap (filter (λ other. not (is_same block other)) older) some)

  pub never-empty : slice_get entries 0 ≡ None → ⊥
  never-empty none = no-first entries first_key none
    where
      no-first : {k : Block} {ks : List Block} (es : List (Block × List ℕ)) → keys_of es ≡ k ∷ ks → slice_get es 0 ≡ None → ⊥
      no-first [] e n = cc
      no-first (x ∷ es) e n = cc

  pub first-there : (entry : Block × List ℕ) → Some entry ≡ slice_get entries 0
      → (later : List (Block × List ℕ)) × (entries ≡ (block, entry.1) ∷ later)
  first-there entry there = begun entries first_key there
    where
      begun : {ks : List Block} (es : List (Block × List ℕ)) → keys_of es ≡ block ∷ ks → Some entry ≡ slice_get es 0
          → (later : List (Block × List ℕ)) × (es ≡ (block, entry.1) ∷ later)
      begun [] e t = absurd cc
      begun (x ∷ es) e t =
          let key : x.0 ≡ block = cc in
          let same : entry ≡ x = cc in
          (es, ap (λ (k : Block). (k, x.1) ∷ es) key ∙ ap (λ (y : Block × List ℕ). (block, y.1) ∷ es) (sym same))

pub first-checked : (entries later : List (Block × List ℕ)) (entry : Block × List ℕ) → AllByRecursion IsChecked entries
    → entries ≡ entry ∷ later → IsChecked entry
first-checked entries later entry a e =
    let all : AllByRecursion IsChecked (entry ∷ later) = subst (AllByRecursion IsChecked) e a in all.0
