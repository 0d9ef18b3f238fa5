-- What an event makes of the space of addresses and of the postings.
use Rattle.std.proofs.Common.{◌≡◌, ℕ, zero, suc, ◌+◌, ◌<◌, ◌≤◌, ◌==◌, Bool, cond, List, ◌++◌, length, refl, ap, sym, ◌∙◌, subst, arith}
use Rattle.std.proofs.Common.{append_assoc, length-append}
use Rattle.std.specs.Prelude.{Option, Some, None}
use Rattle.std.proofs.lemmas.Bool.{ne_eqb}
use Rattle.wu_token.specs.Tokens.{tokens_of}
use Rattle.wu_layout.specs.Postings.{Posting, addresses_of, placed_from}
use Rattle.wu_layout.proofs.Fetches.{placed-append}
use Rattle.wu_layout.proofs.PostingLemmas.{Ascend-append, Ascend-below, Ascend-placed, length-placed}
use Rattle.wu_layout.proofs.TermLemmas.{addresses_of-append}
use Rattle.wu_space.specs.Addresses.{Addresses}
use Rattle.wu_parts.specs.Memory.{Gains, HasPostings, Memory, held}
use Rattle.wu_parts.proofs.Gaining.{holds_more}
use Rattle.wu_engine.specs.Indexing.{terms_given, with_file, without_file}

-- a text has a token or more
pub some_tokens : (text : List ℕ) → 0 < length (tokens_of text)
unfolding tokens_of
some_tokens text = omega arith

-- ---- terms that are gained

some_end : (n x y : ℕ) → 0 < n → cond (n == 0) x y ≡ y
some_end n x y l = ap (λ (b : Bool). cond b x y) (ne_eqb n 0 (λ e. omega arith))

module _ (start : ℕ) (first second : List (List ℕ)) where
  -- where what is taken ends, after f addresses and then s more
  end_twice : (old mid new : ℕ) (f s : ℕ) → mid ≡ cond (f == 0) old (start + f) → new ≡ cond (s == 0) mid (start + f + s)
      → new ≡ cond (f + s == 0) old (start + (f + s))
  end_twice old mid new zero zero m n = n ∙ m
  end_twice old mid new (suc f) zero m n =
      let same : start + suc f ≡ start + (suc f + 0) = omega arith in
      n ∙ m ∙ some_end (suc f) old (start + suc f) (omega arith) ∙ same
      ∙ sym (some_end (suc f + 0) old (start + (suc f + 0)) (omega arith))
  end_twice old mid new f (suc s) m n =
      let same : start + f + suc s ≡ start + (f + suc s) = omega arith in
      n ∙ some_end (suc s) mid (start + f + suc s) (omega arith) ∙ same
      ∙ sym (some_end (f + suc s) old (start + (f + suc s)) (omega arith))

  pub gains_twice : (old mid new : Memory) → Gains start first old mid → Gains (start + length first) second mid new
      → Gains start (first ++ second) old new
  gains_twice old mid new g h = record {
    addresses = λ term.
        h.addresses term
        ∙ ap (λ (l : List ℕ). l ++ addresses_of term (placed_from (start + length first) second)) (g.addresses term)
        ∙ append_assoc (held old term) (addresses_of term (placed_from start first)) (addresses_of term (placed_from (start + length first) second))
        ∙ ap (λ (l : List ℕ). held old term ++ l)
        (sym (ap (addresses_of term) (placed-append start first second)
        ∙ addresses_of-append term (placed_from start first) (placed_from (start + length first) second)));
    stored = omega (arith, h.stored, g.stored, length-append first second);
    end =
        subst (λ (n : ℕ). new.end ≡ cond (n == 0) old.end (start + n)) (sym (length-append first second))
        (end_twice old.end mid.end new.end (length first) (length second) g.end h.end);
  }

-- memory has the postings that it had, and those of the terms
pub postings_gained : (low high next : ℕ) (terms : List (List ℕ)) (old new : Memory) (postings : List Posting) → high ≤ next
    → Gains next terms old new → HasPostings low high old postings
    → HasPostings low (next + length terms) new (postings ++ placed_from next terms)
postings_gained low high next terms old new postings below gained has = record {
  addresses = holds_more next terms old new postings gained has.addresses;
  stored =
      omega (arith, gained.stored, has.stored, length-append postings (placed_from next terms), length-placed next terms);
  ascend =
      Ascend-append low next (next + length terms) postings (placed_from next terms) (Ascend-below low high next postings below has.ascend)
      (Ascend-placed next terms);
}

-- ---- the next address

pub next-with_file : (o : Option ℕ) (text : List ℕ) (space : Addresses)
    → (with_file o text space).next ≡ space.next + length (terms_given o text)
next-with_file None text space = omega arith
next-with_file (Some ino) text space = refl

pub next-without_file : (o : Option ℕ) (space : Addresses) → (without_file o space).next ≡ space.next
next-without_file None space = refl
next-without_file (Some ino) space = refl
