-- What one read of a block tells.
use Rattle.std.proofs.Common.{◌≡◌, ℕ, ◌+◌, ◌-◌, List, [], ◌∷◌, ◌++◌, length, take, drop, refl, ap, sym, ◌∙◌, subst, arith}
use Rattle.std.specs.Prelude.{Option, Some, Result, Err}
use Rattle.std.proofs.lemmas.Option.{same_Some}
use Rattle.wu_base.specs.declared.troubles.Trouble.TheVariants.{NoMemory as RanOutOfMemory, Damaged}
use Rattle.wu_outside.specs.Content.{Content, ReadsFrom}
use Rattle.wu_outside.specs.Faults.{HasFaultCause, trouble_of}
use Rattle.wu_outside.specs.declared.ranges.ReadRange.{ReadRange}
use Rattle.wu_outside.specs.declared.traits.Fault.{Fault}
use Rattle.wu_outside.specs.declared.traits.Fault.TheVariants.{Failed, NoMemory}
use Rattle.wu_lists.specs.declared.blocks.Block.{Block}
use Rattle.wu_lists.specs.Blocks.{HasBytes, IsSpelledIn, IsSpelling, bytes_of}
use Rattle.wu_lists.specs.Causes.{IsCause}
use Rattle.wu_lists.proofs.Asking.{ranges-none, with_ranges}

slice-same : (block : Block) (blob : List ℕ) → bytes_of block blob ≡ take block.len (drop block.at blob)
slice-same block blob =
    let len : block.at + block.len - block.at ≡ block.len = omega arith in
    ap (λ (n : ℕ). take n (drop block.at blob)) len

-- ---- what was read of a blob

module _ (content : Content) (block : Block) (count : Option ℕ) (buffer : List ℕ) (long : length buffer ≡ block.len) where
  same-given : (blob : List ℕ) → take (length buffer) (drop block.at blob) ≡ bytes_of block blob
  same-given blob = ap (λ (n : ℕ). take n (drop block.at blob)) long ∙ sym (slice-same block blob)

  -- not all of it was there
  pub not-whole : ((n : ℕ) → count ≡ Some n → n ≡ length buffer → ⊥) → ReadsFrom (content.blobs block.blob) block.at count buffer
      → IsSpelledIn content block → ⊥
  not-whole short read s =
      let r = subst (λ (o : Option (List ℕ)). ReadsFrom o block.at count buffer) s.has.there read in
      let taken : List ℕ = take (length buffer) (drop block.at s.has.blob) in
      let same : s.bytes ≡ taken = s.has.same ∙ sym (same-given s.has.blob) in
      let lengths : length s.bytes ≡ length taken = ap (λ (l : List ℕ). length l) same in
      short (length taken) r.0 (omega (arith, lengths, s.has.whole, long))

-- the bytes of the block are no spelling
pub unspelled : (content : Content) (block : Block) (bytes : List ℕ) → HasBytes content block bytes
    → ((addresses : List ℕ) → IsSpelling block addresses bytes → ⊥) → IsSpelledIn content block → ⊥
unspelled content block bytes h none s =
    let blob : s.has.blob ≡ h.blob = same_Some s.has.blob h.blob (sym s.has.there ∙ h.there) in
    let same : s.bytes ≡ bytes = s.has.same ∙ ap (λ (l : List ℕ). bytes_of block l) blob ∙ sym h.same in
    none s.addresses (subst (IsSpelling block s.addresses) same s.spelled)

-- ---- causes

pub cause-fault : {T : Type 0} (missed : List Block) (blob : ℕ) (Broken : Type 0) (before now : ℕ)
    (ranges ranges_now : Option (List ReadRange)) (fault : Fault) (r : Result T Fault) → r ≡ Err fault → HasFaultCause before now r
    → ranges_now ≡ ranges → IsCause missed blob Broken before now ranges ranges_now (trouble_of fault)
cause-fault missed blob Broken before now ranges ranges_now Failed r is c same = record {
  counted = c.kept;
  store_fault = λ e. c.rose is;
  calm = λ n. absurd (n refl);
  added = [];
  unread = missed;
  front = refl;
  read = same ∙ ranges-none ranges;
  damaged = λ other e. absurd (cc);
}
cause-fault missed blob Broken before now ranges ranges_now NoMemory r is c same = record {
  counted = c.kept;
  store_fault = λ e. absurd (cc);
  calm = λ n. c.out_of_memory is;
  added = [];
  unread = missed;
  front = refl;
  read = same ∙ ranges-none ranges;
  damaged = λ other e. absurd (cc);
}

damaged_same : (a b : ℕ) → Damaged a ≡ Damaged b → b ≡ a
damaged_same a b e = cc

pub cause-damaged : (block : Block) (Broken : Type 0) (before now : ℕ) (ranges ranges_now : Option (List ReadRange)) → now ≡ before
    → ranges_now ≡ with_ranges ranges (block ∷ []) → Broken
    → IsCause (block ∷ []) block.blob Broken before now ranges ranges_now (Damaged block.blob)
cause-damaged block Broken before now ranges ranges_now calm read broken = record {
  counted = omega (arith, calm);
  store_fault = λ e. absurd (cc);
  calm = λ n. calm;
  added = block ∷ [];
  unread = [];
  front = refl;
  read = read;
  damaged = λ other e. (damaged_same block.blob other e, omega arith, broken);
}

-- out of memory, after the blocks were read
pub cause-memory : (missed : List Block) (blob : ℕ) (Broken : Type 0) (before now : ℕ) (ranges ranges_now : Option (List ReadRange))
    → now ≡ before → ranges_now ≡ with_ranges ranges missed
    → IsCause missed blob Broken before now ranges ranges_now RanOutOfMemory
cause-memory missed blob Broken before now ranges ranges_now calm read = record {
  counted = omega (arith, calm);
  store_fault = λ e. absurd (cc);
  calm = λ n. calm;
  added = missed;
  unread = [];
  front = sym (nothing missed);
  read = read;
  damaged = λ other e. absurd (cc);
}
  where
    nothing : (bs : List Block) → bs ++ [] ≡ bs
    nothing [] = refl
    nothing (b ∷ bs) = ap (λ (l : List Block). b ∷ l) (nothing bs)
