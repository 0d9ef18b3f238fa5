use Rattle.std.proofs.Common.{[], ◌∷◌, get_or, refl, arith}
use Rattle.wu_image.proofs.RecordedNumbers.{length_of_text, text_spelled}
use Rattle.wu_image.proofs.nodes.take_text.Goals as goal

pub returns-in_default-clause-none : goal.returns-in_default-clause-none
returns-in_default-clause-none c file rest small s =
    c.in_default.ensures.none (file.len ∷ file.blob ∷ file.range.start ∷ file.range.len ∷ []) rest refl s

pub returns-then-len-from-clause-found : goal.returns-then-len-from-clause-found
returns-then-len-from-clause-found c =
    let n = c.next_numbers.new.numbers in (
      refl,
      omega arith,
      text_spelled _ _ n
          (record {
            ino = c.args.ino;
            len = get_or n 0 0;
            blob = get_or n 1 0;
            range = record { start = get_or n 2 0; len = get_or n 3 0 };
          }) c.in-Some.ensures.length c.in-Some.ensures.found refl refl refl refl,
    )

pub returns-else-len-from-clause-none : goal.returns-else-len-from-clause-none
returns-else-len-from-clause-none c file rest small s =
    let n = length_of_text _ _ rest _ file c.in-Some.ensures.length c.in-Some.ensures.found s in omega arith
