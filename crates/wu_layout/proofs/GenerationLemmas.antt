-- Generations, where the parts of a job are replaced by what is made of them.
use Rattle.std.proofs.Common.{◌≡◌, ℕ, ◌+◌, ◌*◌, ◌^◌, ◌<◌, ◌≤◌, List, [], ◌∷◌, ◌++◌, length, ap, sym, ◌∙◌, subst, arith, pow-add, pow_mono}
use Rattle.std.proofs.Common.{⊎_elim}
use Rattle.std.specs.List.{AllByRecursion}
use Rattle.std.proofs.lemmas.Bool.{cases_lt}
use Rattle.std.proofs.lemmas.List.Sums.{sum_by-append, sum_by-cons}
use Rattle.wu_base.proofs.EachLemmas.{each-append, each_left, each_right, each-map}
use Rattle.wu_layout.specs.Layouts.{Part}
use Rattle.wu_layout.specs.Invariants.{NeverRise, flushes_for, MayBeTaken}
use Rattle.wu_layout.specs.Steps.{made_generation}

-- no generation of the parts is greater
abbrev pub AreUpTo : ℕ → List Part → Type 0
AreUpTo generation parts = AllByRecursion (λ part. part.generation ≤ generation) parts

-- none is less
abbrev pub AreFrom : ℕ → List Part → Type 0
AreFrom generation parts = AllByRecursion (λ part. generation ≤ part.generation) parts

never_rise_right : (before after : List Part) → NeverRise (before ++ after) → NeverRise after
never_rise_right [] after n = n
never_rise_right (part ∷ before) after n = never_rise_right before after n.1

-- what stands left of a part
left_of : (before : List Part) (part : Part) (after : List Part) → NeverRise (before ++ part ∷ after) → AreFrom part.generation before
left_of [] part after n = tt
left_of (first ∷ before) part after n =
    ((each_right (λ later. later.generation ≤ first.generation) before (part ∷ after) n.0).0, left_of before part after n.1)

-- parts taken out
pub never_rise_without : (before taken after : List Part) → NeverRise (before ++ (taken ++ after)) → NeverRise (before ++ after)
never_rise_without [] taken after n = never_rise_right taken after n
never_rise_without (first ∷ before) taken after n =
    let up = λ (later : Part). later.generation ≤ first.generation in (
      each-append up before after
          (each_left up before (taken ++ after) n.0)
          (each_right up taken after (each_right up before (taken ++ after) n.0)),
      never_rise_without before taken after n.1,
    )

-- a part put between
pub never_rise_between : (before after : List Part) (part : Part) → NeverRise (before ++ after) → AreFrom part.generation before
    → AreUpTo part.generation after → NeverRise (before ++ part ∷ after)
never_rise_between [] after part n from to = (to, n)
never_rise_between (first ∷ before) after part n from to =
    let up = λ (later : Part). later.generation ≤ first.generation in (
      each-append up before (part ∷ after) (each_left up before after n.0) (from.0, each_right up before after n.0),
      never_rise_between before after part n.1 from.1 to,
    )

-- ---- what is made of the parts of a job

after_taken : (before taken after : List Part) → MayBeTaken before taken → NeverRise (before ++ (taken ++ after))
    → AreUpTo (made_generation taken) after
after_taken before [] after m n = absurd m
after_taken before (part ∷ more) after m n =
    let own : NeverRise (part ∷ (more ++ after)) = never_rise_right before (part ∷ (more ++ after)) n in
    each-map (λ later. later.generation ≤ part.generation) (λ later. later.generation ≤ part.generation + length more) after
    (λ later l. omega arith)
    (each_right (λ later. later.generation ≤ part.generation) more after own.0)

before_taken : (before taken after : List Part) → MayBeTaken before taken → NeverRise (before ++ (taken ++ after))
    → AreFrom (made_generation taken) before
before_taken before [] after m n = absurd m
before_taken before (part ∷ []) after m n =
    each-map (λ p. part.generation ≤ p.generation) (λ p. part.generation + 0 ≤ p.generation) before (λ p l. omega arith)
    (left_of before part after n)
before_taken before (left ∷ right ∷ []) after m n =
    each-map (λ p. left.generation < p.generation) (λ p. left.generation + 1 ≤ p.generation) before (λ p l. omega arith) m.1
before_taken before (first ∷ second ∷ third ∷ more) after m n = absurd m

pub never_rise_made : (before taken after : List Part) (part : Part) → MayBeTaken before taken
    → part.generation ≡ made_generation taken → NeverRise (before ++ (taken ++ after)) → NeverRise (before ++ part ∷ after)
never_rise_made before taken after part m e n =
    never_rise_between before after part
    (never_rise_without before taken after n)
    (subst (λ g. AreFrom g before) (sym e) (before_taken before taken after m n))
    (subst (λ g. AreUpTo g after) (sym e) (after_taken before taken after m n))

-- twice 2^g is 2^(g + 1)
made_cost : (before taken : List Part) → MayBeTaken before taken → 2 ^ made_generation taken ≤ flushes_for taken
made_cost before [] m = absurd m
made_cost before (part ∷ []) m =
    let same : 2 ^ (part.generation + 0) ≡ 2 ^ part.generation = ap (λ (g : ℕ). 2 ^ g) (omega arith) in
    omega (arith, same, sum_by-cons (λ (p : Part). 2 ^ p.generation) part [])
made_cost before (left ∷ right ∷ []) m =
    let twice : 2 ^ (left.generation + 1) ≡ 2 ^ left.generation * 2 = pow-add 2 left.generation 1 in
    let alike : 2 ^ left.generation ≡ 2 ^ right.generation = ap (λ (g : ℕ). 2 ^ g) m.0 in
    omega (
      arith,
      twice,
      alike,
      sum_by-cons (λ (p : Part). 2 ^ p.generation) left (right ∷ []),
      sum_by-cons (λ (p : Part). 2 ^ p.generation) right [],
    )
made_cost before (first ∷ second ∷ third ∷ more) m = absurd m

flushes_split : (before taken after : List Part)
    → flushes_for (before ++ (taken ++ after)) ≡ flushes_for before + (flushes_for taken + flushes_for after)
flushes_split before taken after =
    sum_by-append (λ (p : Part). 2 ^ p.generation) before (taken ++ after)
    ∙ ap (λ (n : ℕ). flushes_for before + n) (sum_by-append (λ (p : Part). 2 ^ p.generation) taken after)

pub flushes_without : (before taken after : List Part) → flushes_for (before ++ after) ≤ flushes_for (before ++ (taken ++ after))
flushes_without before taken after =
    omega (arith, flushes_split before taken after, sum_by-append (λ (p : Part). 2 ^ p.generation) before after)

pub flushes_made : (before taken after : List Part) (part : Part) → MayBeTaken before taken → part.generation ≡ made_generation taken
    → flushes_for (before ++ part ∷ after) ≤ flushes_for (before ++ (taken ++ after))
flushes_made before taken after part m e =
    let cost : 2 ^ part.generation ≡ 2 ^ made_generation taken = ap (λ (g : ℕ). 2 ^ g) e in
    omega (
      arith,
      cost,
      made_cost before taken m,
      flushes_split before taken after,
      sum_by-append (λ (p : Part). 2 ^ p.generation) before (part ∷ after),
      sum_by-cons (λ (p : Part). 2 ^ p.generation) part after,
    )

-- ---- how great generations may be

part_cost : (most : ℕ) (parts : List Part) → flushes_for parts ≤ most → AllByRecursion (λ part. 2 ^ part.generation ≤ most) parts
part_cost most [] l = tt
part_cost most (part ∷ parts) l =
    let split : flushes_for (part ∷ parts) ≡ 2 ^ part.generation + flushes_for parts =
    sum_by-cons (λ (p : Part). 2 ^ p.generation) part parts in
    (omega arith, part_cost most parts (omega arith))

-- fewer than 2^n flushes make generations below n
pub generations_below : (n flushes : ℕ) (parts : List Part) → flushes_for parts ≤ flushes → flushes < 2 ^ n
    → AllByRecursion (λ part. part.generation < n) parts
generations_below n flushes parts l h =
    each-map (λ part. 2 ^ part.generation ≤ flushes) (λ part. part.generation < n) parts
    (λ part c.
    ⊎_elim
    (λ (b : part.generation < n). b)
    (λ (b : n ≤ part.generation). let p : 2 ^ n ≤ 2 ^ part.generation = pow_mono b in absurd (omega arith))
    (cases_lt part.generation n))
    (part_cost flushes parts l)
