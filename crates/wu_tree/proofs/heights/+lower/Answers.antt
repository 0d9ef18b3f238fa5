-- without entries
use Rattle.std.proofs.Common.{◌≡◌, ◌≤◌, ◌-◌, ◌∙◌, ℕ, List, [], refl, sym, ap, subst, inl, inr, ⊎_elim, arith}
use Rattle.std.specs.Prelude.{map}
use Rattle.wu_base.proofs.Members.{Has}
use Rattle.wu_tree.specs.Paths.{children_of}
use Rattle.wu_tree.specs.declared.inodes.Inode.{Inode}
use Rattle.wu_tree.specs.FileSystems.{FileSystem, is_directory}
use Rattle.wu_tree.specs.Lists.{WasWalked}
use Rattle.wu_tree.specs.Inodes.{file_system, height_at, height_over_at}
use Rattle.wu_tree.proofs.PathsDown.{children_named}
use Rattle.wu_tree.proofs.LowDirectories.{IsLowered, lowered, lowered_then, over_falls}
use Rattle.wu_tree.proofs.TreeInvariant.{same_holds, same_system}
use Rattle.wu_tree.proofs.WalkedDirectories.{IsWalked, a_directory, no_directory, no_levels, walk_ends, walk_goes_down, walk_skips}
use Rattle.wu_tree.proofs.WalkedDirectories.{walk_starts}
use Rattle.wu_tree.proofs.heights.+lower.Goals as goal
use Rattle.wu_tree.proofs.heights.+lower.Goals.{After-set_height, After-set_height-2, After-next}

bare : (t : ℕ) (c : After-set_height t) → IsLowered c.args.inodes.now.entries c.set_height.new.inodes.entries
bare t c =
    let none : children_of c.args.links.now c.args.directory ≡ [] = ap (λ (l : List (List ℕ × ℕ)). map (λ e. e.1) l) c.in_default.ensures in
    rw c.set_height.ensures
    (lowered c.args.links.now c.args.inodes.now.entries c.requires.held c.requires.heights c.args.directory 0
    (λ child h. absurd (subst (λ l. Has child l) none h)) _ refl 0 (omega arith))

-- the walk to no level, and through no names
pub returns-then-levels-eq0-clause-walked : goal.returns-then-levels-eq0-clause-walked
returns-then-levels-eq0-clause-walked t c =
    no_levels (file_system c.args.inodes.now.entries c.args.links.now [] []) c.args.levels c.args.directory c.args.inodes.now.entries
    c.if-levels-eq0.true

pub returns-in_default-clause-walked : goal.returns-in_default-clause-walked
returns-in_default-clause-walked t c =
    let inodes = c.args.inodes.now.entries in
    let fs = file_system inodes c.args.links.now [] [] in
    let none : [] ≡ children_of c.args.links.now c.args.directory =
    sym (ap (λ (l : List (List ℕ × ℕ)). map (λ e. e.1) l) c.in_default.ensures) in
    let low = (bare t (goal.at.returns-in_default-clause-walked t c).After-set_height).lower in
    subst (λ (es : List (ℕ × Inode)). WasWalked fs inodes es c.args.levels c.args.directory) (sym c.set_height.ensures)
    (walk_ends fs c.args.levels c.args.directory c.if-levels-eq0.false inodes inodes 0 0
    (walk_starts fs c.args.levels c.args.directory c.if-levels-eq0.false inodes [] none) (omega arith)
    (λ ino. subst (λ (es : List (ℕ × Inode)). height_at es ino ≤ height_at inodes ino) c.set_height.ensures (low ino)))

pub returns-in_default-clause-nodes : goal.returns-in_default-clause-nodes
returns-in_default-clause-nodes t c = (bare t c).nodes

pub returns-in_default-clause-heights : goal.returns-in_default-clause-heights
returns-in_default-clause-heights t c = (bare t c).heights

pub returns-in_default-clause-lower : goal.returns-in_default-clause-lower
returns-in_default-clause-lower t c = (bare t c).lower

pub loop-child-init : goal.loop-child-init
loop-child-init t c =
    let e =
    sym (children_named c.args.links.now c.args.directory c.in-Some.names.now.entries c.in-Some.ensures)
    ∙ sym (c.into_iter-child-iterator.ensures.into_iter_gives ∙ c.values-child-items.ensures.rest)
    in (
      record { nodes = refl; heights = c.requires.heights; lower = λ ino. omega arith },
      walk_starts (file_system c.args.inodes.now.entries c.args.links.now [] []) c.args.levels c.args.directory c.if-levels-eq0.false
          c.args.inodes.now.entries c.into_iter-child-iterator.result (sym e),
      λ child h. inl (subst (λ l. Has child l) e h),
    )

pub lower-requires : goal.lower-requires
lower-requires t c = (
  omega arith,
  (
    same_holds c.args.inodes.now.entries c.loop-child.inodes.entries c.args.links.now [] [] c.loop-child.invariant.0.nodes
        c.requires.held,
    c.loop-child.invariant.0.heights,
  ),
)

-- the file system that the nodes stand for so far
same_so_far : (t : ℕ) (c : After-next t) → file_system c.loop-child.inodes.entries c.args.links.now [] []
    ≡ file_system c.args.inodes.now.entries c.args.links.now [] []
same_so_far t c =
    same_system c.args.inodes.now.entries c.loop-child.inodes.entries c.args.links.now [] [] c.loop-child.invariant.0.nodes

pub loop-child-preserved-then-height_over-gt0 : goal.loop-child-preserved-then-height_over-gt0
loop-child-preserved-then-height_over-gt0 t c =
    let fs = file_system c.args.inodes.now.entries c.args.links.now [] [] in
    let so_far = c.loop-child.inodes.entries in
    let now = c.lower.new.inodes.entries in
    let child = c.in-Some-child.child.now in
    let same = same_so_far t (goal.at.loop-child-preserved-then-height_over-gt0 t c).After-next in
    let step : IsLowered so_far now = record {
      nodes = c.lower.ensures.nodes;
      heights = c.lower.ensures.heights;
      lower = c.lower.ensures.lower;
    }
    in (
      lowered_then c.args.inodes.now.entries so_far now c.loop-child.invariant.0 step,
      walk_goes_down fs c.args.levels c.args.directory c.if-levels-eq0.false c.args.inodes.now.entries so_far c.loop-child.height child
          c.next.new.self now c.max-height.result
          (subst (λ (l : List ℕ). IsWalked fs c.args.inodes.now.entries so_far c.args.levels c.args.directory c.loop-child.height l)
          c.in-Some-child.ensures.steps c.loop-child.invariant.1)
          (ap (λ (v : FileSystem). is_directory v child) (sym same) ∙ a_directory so_far c.args.links.now child (omega arith))
          (subst (λ (v : FileSystem). WasWalked v so_far now (c.args.levels - 1) child) same c.lower.ensures.walked)
          c.lower.ensures.lower (λ n a b. omega arith),
      λ q h. ⊎_elim
          (λ i. ⊎_elim
          (λ e. inr (subst (λ x. height_over_at now x ≤ c.max-height.result) e (omega arith)))
          (λ r. inl r)
          (subst (λ l. Has q l) c.in-Some-child.ensures.steps i))
          (λ low. inr (omega (arith, low, over_falls so_far now step q)))
          (c.loop-child.invariant.2 q h),
    )

-- a file
pub loop-child-preserved : goal.loop-child-preserved
loop-child-preserved t c =
    let fs = file_system c.args.inodes.now.entries c.args.links.now [] [] in
    let so_far = c.loop-child.inodes.entries in
    let child = c.in-Some-child.child.now in (
      c.loop-child.invariant.0,
      walk_skips fs c.args.levels c.args.directory c.if-levels-eq0.false c.args.inodes.now.entries so_far c.loop-child.height child
          c.next.new.self
          (subst (λ (l : List ℕ). IsWalked fs c.args.inodes.now.entries so_far c.args.levels c.args.directory c.loop-child.height l)
          c.in-Some-child.ensures.steps c.loop-child.invariant.1)
          (ap (λ (v : FileSystem). is_directory v child) (sym (same_so_far t (goal.at.loop-child-preserved t c).After-next))
          ∙ no_directory so_far c.args.links.now child (omega arith)),
      λ q h. ⊎_elim
          (λ i. ⊎_elim
          (λ e. inr (subst (λ x. height_over_at so_far x ≤ c.loop-child.height) e (omega arith)))
          (λ r. inl r)
          (subst (λ l. Has q l) c.in-Some-child.ensures.steps i))
          (λ low. inr low)
          (c.loop-child.invariant.2 q h),
    )

-- with entries
last : (t : ℕ) (c : After-set_height-2 t) → IsLowered c.loop-child.inodes.entries c.set_height-2.new.inodes.entries
last t c =
    let all : (child : ℕ) → Has child (children_of c.args.links.now c.args.directory)
    → height_over_at c.loop-child.inodes.entries child ≤ c.loop-child.height =
    λ child h. ⊎_elim (λ i. absurd (subst (λ l. Has child l) c.in-None.ensures.steps.0 i)) (λ low. low)
    (c.loop-child.invariant.2 child h) in
    let held = same_holds c.args.inodes.now.entries c.loop-child.inodes.entries c.args.links.now [] [] c.loop-child.invariant.0.nodes
    c.requires.held in
    rw c.set_height-2.ensures
    (lowered c.args.links.now c.loop-child.inodes.entries held c.loop-child.invariant.0.heights c.args.directory c.loop-child.height all
    _ refl c.min-height.result (omega arith))

full : (t : ℕ) (c : After-set_height-2 t) → IsLowered c.args.inodes.now.entries c.set_height-2.new.inodes.entries
full t c =
    lowered_then c.args.inodes.now.entries c.loop-child.inodes.entries c.set_height-2.new.inodes.entries c.loop-child.invariant.0 (last t c)

pub returns-clause-nodes : goal.returns-clause-nodes
returns-clause-nodes t c = (full t c).nodes

pub returns-clause-heights : goal.returns-clause-heights
returns-clause-heights t c = (full t c).heights

pub returns-clause-lower : goal.returns-clause-lower
returns-clause-lower t c = (full t c).lower

pub returns-clause-walked : goal.returns-clause-walked
returns-clause-walked t c =
    let fs = file_system c.args.inodes.now.entries c.args.links.now [] [] in
    let before = c.args.inodes.now.entries in
    let so_far = c.loop-child.inodes.entries in
    subst (λ (es : List (ℕ × Inode)). WasWalked fs before es c.args.levels c.args.directory) (sym c.set_height-2.ensures)
    (walk_ends fs c.args.levels c.args.directory c.if-levels-eq0.false before so_far c.loop-child.height c.min-height.result
    (subst (λ (l : List ℕ). IsWalked fs before so_far c.args.levels c.args.directory c.loop-child.height l) c.in-None.ensures.steps.0
    c.loop-child.invariant.1)
    (omega arith)
    (λ ino. subst (λ (es : List (ℕ × Inode)). height_at es ino ≤ height_at so_far ino) c.set_height-2.ensures ((last t c).lower ino)))
