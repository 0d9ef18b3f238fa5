-- Lemmas on the root's bytes.
use Rattle.std.proofs.Common.{◌≡◌, ℕ, ◌+◌, ◌^◌, ◌<◌, ◌≤◌, List, [], ◌∷◌, ◌++◌, length, get_or, take, drop, refl, ap, sym, subst, ◌∙◌}
use Rattle.std.proofs.Common.{arith}
use Rattle.std.specs.Int.{w64, from_be_bytes}
use Rattle.std.proofs.lemmas.List.{drop-drop, take-append-drop, take_all, length-drop}
use Rattle.std.proofs.lemmas.Nat.{from_be_bytes-to_be_bytes_8}
use Rattle.wu_image.specs.declared.roots.Root.{Root}
use Rattle.wu_image.specs.Roots.{IsVersion, SpellsRoot, eight_bytes, root_mark}

-- the first eight of so many bytes
pub first_eight : (bytes : List ℕ) → 8 ≤ length bytes
    → take 8 bytes ≡ get_or bytes 0 0 ∷ get_or bytes 1 0 ∷ get_or bytes 2 0 ∷ get_or bytes 3 0 ∷ get_or bytes 4 0 ∷ get_or bytes 5 0
    ∷ get_or bytes 6 0 ∷ get_or bytes 7 0 ∷ []
first_eight [] l = absurd (omega arith)
first_eight (a ∷ []) l = absurd (omega arith)
first_eight (a ∷ b ∷ []) l = absurd (omega arith)
first_eight (a ∷ b ∷ c ∷ []) l = absurd (omega arith)
first_eight (a ∷ b ∷ c ∷ d ∷ []) l = absurd (omega arith)
first_eight (a ∷ b ∷ c ∷ d ∷ e ∷ []) l = absurd (omega arith)
first_eight (a ∷ b ∷ c ∷ d ∷ e ∷ f ∷ []) l = absurd (omega arith)
first_eight (a ∷ b ∷ c ∷ d ∷ e ∷ f ∷ g ∷ []) l = absurd (omega arith)
first_eight (a ∷ b ∷ c ∷ d ∷ e ∷ f ∷ g ∷ h ∷ bytes) l = refl

-- eight bytes are those of one number
pub eight_bytes_of_one : (n m : ℕ) → n < 2 ^ 64 → m < 2 ^ 64 → eight_bytes n ≡ eight_bytes m → n ≡ m
eight_bytes_of_one n m a b e =
    sym (from_be_bytes-to_be_bytes_8 n a) ∙ (ap (λ (l : List ℕ). from_be_bytes w64 l) e ∙ from_be_bytes-to_be_bytes_8 m b)

-- the four times eight bytes after the first eight
pub four_eights : (bytes : List ℕ) → length bytes ≡ 40
    → bytes ≡ take 8 bytes ++ (take 8 (drop 8 bytes) ++ (take 8 (drop 16 bytes) ++ (take 8 (drop 24 bytes) ++ take 8 (drop 32 bytes))))
four_eights bytes long =
    let last : drop 32 bytes ≡ take 8 (drop 32 bytes) = sym (take_all 8 (drop 32 bytes) (omega (arith, length-drop 32 bytes))) in
    let third : drop 24 bytes ≡ take 8 (drop 24 bytes) ++ drop 32 bytes =
    sym (take-append-drop 8 (drop 24 bytes)) ∙ ap (λ (l : List ℕ). take 8 (drop 24 bytes) ++ l) (drop-drop 8 24 bytes) in
    let second : drop 16 bytes ≡ take 8 (drop 16 bytes) ++ drop 24 bytes =
    sym (take-append-drop 8 (drop 16 bytes)) ∙ ap (λ (l : List ℕ). take 8 (drop 16 bytes) ++ l) (drop-drop 8 16 bytes) in
    let first : drop 8 bytes ≡ take 8 (drop 8 bytes) ++ drop 16 bytes =
    sym (take-append-drop 8 (drop 8 bytes)) ∙ ap (λ (l : List ℕ). take 8 (drop 8 bytes) ++ l) (drop-drop 8 8 bytes) in
    sym (take-append-drop 8 bytes)
    ∙ ap (λ (l : List ℕ). take 8 bytes ++ l)
    (first ∙ ap (λ (l : List ℕ). take 8 (drop 8 bytes) ++ l)
    (second ∙ ap (λ (l : List ℕ). take 8 (drop 16 bytes) ++ l)
    (third ∙ ap (λ (l : List ℕ). take 8 (drop 24 bytes) ++ l) last)))

pub root_read : (bytes : List ℕ) (root : Root) → length bytes ≡ 40 → IsVersion root.version → root_mark root.version ≡ take 8 bytes
    → eight_bytes root.checkpoint ≡ take 8 (drop 8 bytes) → eight_bytes root.size ≡ take 8 (drop 16 bytes)
    → eight_bytes root.next_address ≡ take 8 (drop 24 bytes) → eight_bytes root.next_blob ≡ take 8 (drop 32 bytes)
    → 0 < root.checkpoint → root.checkpoint < root.next_blob → root.size < 2 ^ 64 → root.next_address < 2 ^ 64 → root.next_blob < 2 ^ 64
    → SpellsRoot root bytes
root_read bytes root long version front a b c d some drawn size address blob =
    let mark : List ℕ = root_mark root.version in
    let join : List ℕ → List ℕ → List ℕ → List ℕ → List ℕ → List ℕ = λ m x y z w. m ++ (x ++ (y ++ (z ++ w))) in
    record {
      version = version;
      some = some;
      drawn = drawn;
      size_fits = size;
      address_fits = address;
      blob_fits = blob;
      spelled = four_eights bytes long
          ∙ (ap (λ (m : List ℕ). join m (take 8 (drop 8 bytes)) (take 8 (drop 16 bytes)) (take 8 (drop 24 bytes)) (take 8 (drop 32 bytes)))
          (sym front)
          ∙ (ap (λ (x : List ℕ). join mark x (take 8 (drop 16 bytes)) (take 8 (drop 24 bytes)) (take 8 (drop 32 bytes))) (sym a)
          ∙ (ap (λ (y : List ℕ). join mark (eight_bytes root.checkpoint) y (take 8 (drop 24 bytes)) (take 8 (drop 32 bytes))) (sym b)
          ∙ (ap (λ (z : List ℕ). join mark (eight_bytes root.checkpoint) (eight_bytes root.size) z (take 8 (drop 32 bytes))) (sym c)
          ∙ ap (λ (w : List ℕ). join mark (eight_bytes root.checkpoint) (eight_bytes root.size) (eight_bytes root.next_address) w)
          (sym d)))));
    }

-- the mark and the numbers of a root stand at their places
pub record StandAt (root : Root) (bytes : List ℕ) : Type 0 where
  pub mark : take 8 bytes ≡ root_mark root.version
  pub checkpoint : take 8 (drop 8 bytes) ≡ eight_bytes root.checkpoint
  pub size : take 8 (drop 16 bytes) ≡ eight_bytes root.size
  pub next_address : take 8 (drop 24 bytes) ≡ eight_bytes root.next_address
  pub next_blob : take 8 (drop 32 bytes) ≡ eight_bytes root.next_blob

pub numbers_stand : (root : Root) (bytes : List ℕ) → SpellsRoot root bytes → StandAt root bytes
numbers_stand root bytes s = record {
  mark = ap (λ (l : List ℕ). take 8 l) s.spelled;
  checkpoint = ap (λ (l : List ℕ). take 8 (drop 8 l)) s.spelled;
  size = ap (λ (l : List ℕ). take 8 (drop 16 l)) s.spelled;
  next_address = ap (λ (l : List ℕ). take 8 (drop 24 l)) s.spelled;
  next_blob = ap (λ (l : List ℕ). take 8 (drop 32 l)) s.spelled;
}

-- a mark is that of one version
version_of_one : (n m : ℕ) → root_mark n ≡ root_mark m → n ≡ m
version_of_one n m e =
    let digits : 48 + n ≡ 48 + m = ap (λ (l : List ℕ). get_or l 7 0) e in
    omega (arith, digits)

pub same_root : (root other : Root) (bytes : List ℕ) → SpellsRoot root bytes → SpellsRoot other bytes → root ≡ other
same_root root other bytes s t =
    let a = numbers_stand root bytes s in
    let b = numbers_stand other bytes t in
    let checkpoint_fits : root.checkpoint < 2 ^ 64 = let d = s.drawn in let f = s.blob_fits in omega arith in
    let its_fits : other.checkpoint < 2 ^ 64 = let d = t.drawn in let f = t.blob_fits in omega arith in
    let checkpoint = eight_bytes_of_one root.checkpoint other.checkpoint checkpoint_fits its_fits (sym a.checkpoint ∙ b.checkpoint) in
    let size = eight_bytes_of_one root.size other.size s.size_fits t.size_fits (sym a.size ∙ b.size) in
    let address = eight_bytes_of_one root.next_address other.next_address s.address_fits t.address_fits
    (sym a.next_address ∙ b.next_address) in
    let blob = eight_bytes_of_one root.next_blob other.next_blob s.blob_fits t.blob_fits (sym a.next_blob ∙ b.next_blob) in
    let version = version_of_one root.version other.version (sym a.mark ∙ b.mark) in
    let make : ℕ → ℕ → ℕ → ℕ → ℕ → Root =
    λ v c n a b. record { version = v; checkpoint = c; size = n; next_address = a; next_blob = b } in
    ap (λ x. make x root.checkpoint root.size root.next_address root.next_blob) version
    ∙ (ap (λ x. make other.version x root.size root.next_address root.next_blob) checkpoint
    ∙ (ap (λ x. make other.version other.checkpoint x root.next_address root.next_blob) size
    ∙ (ap (λ x. make other.version other.checkpoint other.size x root.next_blob) address
    ∙ ap (λ x. make other.version other.checkpoint other.size other.next_address x) blob)))
