use Rattle.std.proofs.Common.{inl, inr}
use Rattle.wu_solve.proofs.needed.needed_of.Goals as goal

pub returns-in-OneOf-clause-members : goal.returns-in-OneOf-clause-members
returns-in-OneOf-clause-members c = rw c.in-OneOf.is (rw c.deref.ensures.value at c.in_both.ensures.members)

pub returns-in-Containing : goal.returns-in-Containing
returns-in-Containing c = record {
  ascending = c.in_either.ensures.ascending;
  members = elim c.in-Containing.is [
    | inl one ↦ rw one c.in_either.ensures.members
    | inr more ↦ elim more [
      | inl two ↦ rw two c.in_either.ensures.members
      | inr most ↦ elim most [ inl three ↦ rw three c.in_either.ensures.members | inr four ↦ rw four c.in_either.ensures.members ]
    ]
  ];
}
