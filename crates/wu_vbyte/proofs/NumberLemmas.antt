-- Lemmas on spelled numbers.
use Rattle.std.proofs.Common.{◌≡◌, ℕ, zero, suc, ◌+◌, ◌*◌, ◌/◌, ◌%◌, ◌^◌, ◌<◌, ◌≤◌, List, [], ◌∷◌, ◌++◌, ◌⊎◌, inl, inr, refl, ap, sym, ◌∙◌}
use Rattle.std.proofs.Common.{◌-◌, append_assoc, length, length-append, length-drop, get_or, drop, ⊎_elim, arith}
use Rattle.std.proofs.lemmas.List.{drop-drop}
use Rattle.std.proofs.Math.Seq.{drop-append_seam}
use Rattle.std.proofs.lemmas.Bool.{cases_lt}
use Rattle.std.proofs.lemmas.Nat.{pow-add}
use Rattle.std.proofs.Math.Nat.{pow-suc, pow-le-pow_right, mul-le-mul, mul-le-mul_right}
use Rattle.wu_vbyte.specs.Numbers.{value_of, IsCode, SpellsNumber, StartsWithNumber, IsNumberAt, AppendsNumber}

-- no code begins another
pub codes_apart : (a b x y : List ℕ) → IsCode a → IsCode b → a ++ x ≡ b ++ y → (a ≡ b) × (x ≡ y)
codes_apart [] b x y p q e = absurd p
codes_apart (c ∷ a) [] x y p q e = absurd q
codes_apart (c ∷ []) (d ∷ []) x y p q e = let same : c ≡ d = cc in (ap (λ byte. byte ∷ []) same, cc)
codes_apart (c ∷ []) (d ∷ d2 ∷ b) x y p q e = let same : c ≡ d = cc in absurd (omega arith)
codes_apart (c ∷ c2 ∷ a) (d ∷ []) x y p q e = let same : c ≡ d = cc in absurd (omega arith)
codes_apart (c ∷ c2 ∷ a) (d ∷ d2 ∷ b) x y p q e =
    let rest : c2 ∷ a ++ x ≡ d2 ∷ b ++ y = cc in
    let h = codes_apart (c2 ∷ a) (d2 ∷ b) x y p.3 q.3 rest in
    let same : c ≡ d = cc in
    (ap (λ (bytes : List ℕ). c ∷ bytes) h.0 ∙ ap (λ byte. byte ∷ d2 ∷ b) same, h.1)

-- codes of one value are one
pub code_of_value : (a b : List ℕ) → IsCode a → IsCode b → value_of a ≡ value_of b → a ≡ b
code_of_value [] b p q e = absurd p
code_of_value (c ∷ a) [] p q e = absurd q
code_of_value (c ∷ []) (d ∷ []) p q e = let same : c ≡ d = omega arith in ap (λ byte. byte ∷ []) same
code_of_value (c ∷ []) (d ∷ d2 ∷ b) p q e = absurd (omega arith)
code_of_value (c ∷ c2 ∷ a) (d ∷ []) p q e = absurd (omega arith)
code_of_value (c ∷ c2 ∷ a) (d ∷ d2 ∷ b) p q e =
    let more : value_of (c2 ∷ a) ≡ value_of (d2 ∷ b) = omega arith in
    let same : c ≡ d = omega arith in
    ap (λ (bytes : List ℕ). c ∷ bytes) (code_of_value (c2 ∷ a) (d2 ∷ b) p.3 q.3 more) ∙ ap (λ byte. byte ∷ d2 ∷ b) same

-- one byte more at the front
pub longer_code : (n byte : ℕ) (code : List ℕ) → 128 ≤ byte → byte < 256 → 0 < n → SpellsNumber n code
    → SpellsNumber (byte % 128 + 128 * n) (byte ∷ code)
longer_code n byte [] l h some s = absurd s.form
longer_code n byte (next ∷ code) l h some s = record {
  form = (l, h, rw s.value some, s.form);
  value = rw s.value refl;
}

-- no number's spelling is empty
pub starts_not_empty : (n : ℕ) (rest : List ℕ) → StartsWithNumber [] n rest → ⊥
starts_not_empty n rest ([], s, e) = absurd s.form
starts_not_empty n rest (byte ∷ code, s, e) = cc

-- each has a byte at least
pub code_longer : (n : ℕ) (code : List ℕ) → SpellsNumber n code → 1 ≤ length code
code_longer n [] s = absurd s.form
code_longer n (byte ∷ code) s = omega arith

-- a byte below 128 is a spelling by itself
pub starts_with_last : (byte n : ℕ) (left rest : List ℕ) → byte < 128 → StartsWithNumber (byte ∷ left) n rest → (n ≡ byte) × (left ≡ rest)
starts_with_last byte n left rest small ([], s, e) = absurd s.form
starts_with_last byte n left rest small (first ∷ [], s, e) = let same : byte ≡ first = cc in (omega (arith, s.value), cc)
starts_with_last byte n left rest small (first ∷ next ∷ code, s, e) = let same : byte ≡ first = cc in absurd (omega (arith, s.form.0))

pub last_starts : (byte : ℕ) (left : List ℕ) → byte < 128 → StartsWithNumber (byte ∷ left) byte left
last_starts byte left small = (byte ∷ [], record { form = small; value = omega arith }, refl)

-- another byte goes on with the number's seven lowest bits
pub starts_with_more : (byte n : ℕ) (left rest : List ℕ) → 128 ≤ byte → StartsWithNumber (byte ∷ left) n rest
    → (m : ℕ) × (0 < m) × (n ≡ byte % 128 + 128 * m) × StartsWithNumber left m rest
starts_with_more byte n left rest large ([], s, e) = absurd s.form
starts_with_more byte n left rest large (first ∷ [], s, e) = let same : byte ≡ first = cc in absurd (omega (arith, s.form))
starts_with_more byte n left rest large (first ∷ next ∷ code, s, e) =
    let same : byte ≡ first = cc in
    (value_of (next ∷ code), s.form.2, rw same (sym s.value), (next ∷ code, record { form = s.form.3; value = refl }, cc))

pub more_starts : (byte m : ℕ) (left rest : List ℕ) → 128 ≤ byte → byte < 256 → 0 < m → StartsWithNumber left m rest
    → StartsWithNumber (byte ∷ left) (byte % 128 + 128 * m) rest
more_starts byte m left rest large small some s = (byte ∷ s.0, longer_code m byte s.0 large small some s.1, ap (λ bytes. byte ∷ bytes) s.2)

-- what was read of a number that goes on: its lowest bits, of which there are shift
pub record Reads (whole left : List ℕ) (number shift : ℕ) : Type 0 where
  pub some : 7 ≤ shift
  pub most : shift ≤ 63
  pub groups : shift % 7 ≡ 0
  pub below : number < 2 ^ shift
  pub on : (m : ℕ) (rest : List ℕ) → 0 < m → StartsWithNumber left m rest → StartsWithNumber whole (number + m * 2 ^ shift) rest
  pub back : (n : ℕ) (rest : List ℕ) → StartsWithNumber whole n rest
      → (m : ℕ) × (0 < m) × (n ≡ number + m * 2 ^ shift) × StartsWithNumber left m rest

pub reads_first : (byte : ℕ) (left : List ℕ) → 128 ≤ byte → byte < 256 → Reads (byte ∷ left) left (byte % 128) 7
reads_first byte left large small = record {
  some = omega arith;
  most = omega arith;
  groups = refl;
  below = omega arith;
  on = λ m rest some s. let h = more_starts byte m left rest large small some s in
      let e : byte % 128 + 128 * m ≡ byte % 128 + m * 128 = omega arith in rw e at h;
  back = λ n rest s. let h = starts_with_more byte n left rest large s in (h.0, h.1, omega (arith, h.2), h.3);
}

weights : (number group m w : ℕ) → number + (group + 128 * m) * w ≡ (number + group * w) + m * (w * 128)
weights number group m w = grind arith

higher_part : (n number longer m k group w w2 : ℕ) → n ≡ number + m * w → m ≡ group + 128 * k → longer ≡ number + group * w → w2 ≡ w * 128
    → n ≡ longer + k * w2
higher_part n number longer m k group w w2 e h l p = rw (e, h, l, p) (weights number group k w)

pub reads_next : (whole left : List ℕ) (byte number longer shift higher : ℕ) → Reads whole (byte ∷ left) number shift
    → 128 ≤ byte → byte < 256 → shift < 63 → longer ≡ number + (byte % 128) * 2 ^ shift → higher ≡ shift + 7
    → Reads whole left longer higher
reads_next whole left byte number longer shift higher r large small room l h =
    let groups = r.groups in
    let below = r.below in
    let power : 2 ^ higher ≡ 2 ^ shift * 128 = rw h (pow-add 2 shift 7) in
    let group : (byte % 128) * 2 ^ shift ≤ 127 * 2 ^ shift = mul-le-mul_right (2 ^ shift) (omega arith) in
    record {
      some = omega (arith, r.some);
      most = omega arith;
      groups = omega arith;
      below = omega arith;
      on = λ m rest some s.
          let t = r.on (byte % 128 + 128 * m) rest (omega arith) (more_starts byte m left rest large small some s) in
          rw (l, power, sym (weights number (byte % 128) m (2 ^ shift))) t;
      back = λ n rest s.
          let b = r.back n rest s in
          let t = starts_with_more byte b.0 left rest large b.3 in
          (t.0, t.1, higher_part n number longer b.0 t.0 (byte % 128) (2 ^ shift) (2 ^ higher) b.2 t.2 l power, t.3);
    }

pub reads_end : (whole left : List ℕ) (byte number shift : ℕ) → Reads whole (byte ∷ left) number shift → byte < 128 → 0 < byte
    → StartsWithNumber whole (number + byte * 2 ^ shift) left
reads_end whole left byte number shift r small some = r.on byte left some (last_starts byte left small)

-- the bytes have ended
pub reads_nothing : (whole : List ℕ) (number shift n : ℕ) (rest : List ℕ) → Reads whole [] number shift → StartsWithNumber whole n rest → ⊥
reads_nothing whole number shift n rest r s = let b = r.back n rest s in starts_not_empty b.0 rest b.3

-- a last byte that is 0, or over the one bit that is left
pub reads_no_end : (whole left : List ℕ) (byte number shift n : ℕ) (rest : List ℕ) → Reads whole (byte ∷ left) number shift → byte < 128
    → (byte ≡ 0) ⊎ (shift ≡ 63) × (1 < byte) → n < 2 ^ 64 → StartsWithNumber whole n rest → ⊥
reads_no_end whole left byte number shift n rest r small (inl none) fits s =
    let b = r.back n rest s in
    let t = starts_with_last byte b.0 left rest small b.3 in
    absurd (omega (arith, b.1, t.0))
reads_no_end whole left byte number shift n rest r small (inr large) fits s =
    let b = r.back n rest s in
    let t = starts_with_last byte b.0 left rest small b.3 in
    let e : n ≡ number + b.0 * 2 ^ 63 = b.2 ∙ ap (λ bits. number + b.0 * 2 ^ bits) large.0 in
    absurd (omega (arith, t.0, large.1))

-- more bytes where one bit is left
pub reads_too_long : (whole left : List ℕ) (byte number shift n : ℕ) (rest : List ℕ) → Reads whole (byte ∷ left) number shift → 128 ≤ byte
    → shift ≡ 63 → n < 2 ^ 64 → StartsWithNumber whole n rest → ⊥
reads_too_long whole left byte number shift n rest r large full fits s =
    let b = r.back n rest s in
    let t = starts_with_more byte b.0 left rest large b.3 in
    let e : n ≡ number + b.0 * 2 ^ 63 = b.2 ∙ ap (λ bits. number + b.0 * 2 ^ bits) full in
    absurd (omega (arith, t.1, t.2))

-- a number of one byte
pub starts_with_one : (bytes : List ℕ) → 1 ≤ length bytes → get_or bytes 0 0 < 128
    → StartsWithNumber bytes (get_or bytes 0 0) (drop 1 bytes)
starts_with_one [] some small = absurd (omega arith)
starts_with_one (byte ∷ left) some small = last_starts byte left small

-- a number of two bytes
pub starts_with_two : (bytes : List ℕ) → 1 ≤ length bytes → 1 ≤ length (drop 1 bytes) → 128 ≤ get_or bytes 0 0 → get_or bytes 0 0 < 256
    → 0 < get_or (drop 1 bytes) 0 0 → get_or (drop 1 bytes) 0 0 < 128
    → StartsWithNumber bytes (get_or bytes 0 0 % 128 + get_or (drop 1 bytes) 0 0 * 2 ^ 7) (drop 1 (drop 1 bytes))
starts_with_two [] some more large byte above small = absurd (omega arith)
starts_with_two (low ∷ []) some more large byte above small = absurd (omega arith)
starts_with_two (low ∷ high ∷ left) some more large byte above small =
    reads_end (low ∷ high ∷ left) left high (low % 128) 7 (reads_first low (high ∷ left) large byte) small above

-- a number of three bytes
pub starts_with_three : (bytes : List ℕ) → 3 ≤ length bytes → 128 ≤ get_or bytes 0 0 → get_or bytes 0 0 < 256
    → 128 ≤ get_or bytes 1 0 → get_or bytes 1 0 < 256 → 0 < get_or bytes 2 0 → get_or bytes 2 0 < 128
    → StartsWithNumber bytes (get_or bytes 0 0 % 128 + get_or bytes 1 0 % 128 * 2 ^ 7 + get_or bytes 2 0 * 2 ^ 14) (drop 3 bytes)
starts_with_three [] some large byte more next above small = absurd (omega arith)
starts_with_three (low ∷ []) some large byte more next above small = absurd (omega arith)
starts_with_three (low ∷ middle ∷ []) some large byte more next above small = absurd (omega arith)
starts_with_three (low ∷ middle ∷ high ∷ left) some large byte more next above small =
    let whole = low ∷ middle ∷ high ∷ left in
    let one = reads_first low (middle ∷ high ∷ left) large byte in
    let two = reads_next whole (high ∷ left) middle (low % 128) (low % 128 + middle % 128 * 2 ^ 7) 7 14 one more next (omega arith) refl refl in
    reads_end whole left high (low % 128 + middle % 128 * 2 ^ 7) 14 two small above

-- a number of four bytes
pub starts_with_four : (bytes : List ℕ) → 4 ≤ length bytes → 128 ≤ get_or bytes 0 0 → get_or bytes 0 0 < 256
    → 128 ≤ get_or bytes 1 0 → get_or bytes 1 0 < 256 → 128 ≤ get_or bytes 2 0 → get_or bytes 2 0 < 256
    → 0 < get_or bytes 3 0 → get_or bytes 3 0 < 128
    → StartsWithNumber bytes
    (get_or bytes 0 0 % 128 + get_or bytes 1 0 % 128 * 2 ^ 7 + get_or bytes 2 0 % 128 * 2 ^ 14 + get_or bytes 3 0 * 2 ^ 21)
    (drop 4 bytes)
starts_with_four [] some large byte more next third wide above small = absurd (omega arith)
starts_with_four (low ∷ []) some large byte more next third wide above small = absurd (omega arith)
starts_with_four (low ∷ b ∷ []) some large byte more next third wide above small = absurd (omega arith)
starts_with_four (low ∷ b ∷ c ∷ []) some large byte more next third wide above small = absurd (omega arith)
starts_with_four (low ∷ b ∷ c ∷ high ∷ left) some large byte more next third wide above small =
    let whole = low ∷ b ∷ c ∷ high ∷ left in
    let n2 = low % 128 + b % 128 * 2 ^ 7 in
    let n3 = n2 + c % 128 * 2 ^ 14 in
    let one = reads_first low (b ∷ c ∷ high ∷ left) large byte in
    let two = reads_next whole (c ∷ high ∷ left) b (low % 128) n2 7 14 one more next (omega arith) refl refl in
    let three = reads_next whole (high ∷ left) c n2 n3 14 21 two third wide (omega arith) refl refl in
    reads_end whole left high n3 21 three small above

-- a number that starts at a place
pub number_at : (bytes : List ℕ) (place number : ℕ) (rest : List ℕ) → place ≤ length bytes → StartsWithNumber (drop place bytes) number rest
    → IsNumberAt bytes place number (length bytes - length rest)
number_at bytes place number rest inside (code, spelled, e) =
    let some = code_longer number code spelled in
    let whole : length bytes - place ≡ length code + length rest =
    sym (length-drop place bytes) ∙ (ap length e ∙ length-append code rest) in
    let after : length bytes - length rest ≡ place + length code = omega arith in
    rw after (record {
      longer = omega arith;
      within = omega arith;
      spelled = rw (sym (drop-drop (length code) place bytes), e, drop-append_seam code rest) (code, spelled, refl);
    })

-- bytes start with the spelling of one number at most
pub one_number : (bytes : List ℕ) (number other : ℕ) (rest left : List ℕ) → StartsWithNumber bytes number rest
    → StartsWithNumber bytes other left
    → (number ≡ other) × (rest ≡ left)
one_number bytes number other rest left s t =
    let h = codes_apart s.0 t.0 rest left s.1.form t.1.form (sym s.2 ∙ t.2) in
    (sym s.1.value ∙ ap value_of h.0 ∙ t.1.value, h.1)

-- a byte that another follows, and what is left of the number
pub completed_by : (old out new : List ℕ) (number rest byte higher : ℕ)
    → ((code : List ℕ) → SpellsNumber rest code → AppendsNumber old number (out ++ code))
    → 128 ≤ rest → byte ≡ 128 + rest % 128 → higher ≡ rest / 128 → new ≡ out ++ byte ∷ []
    → (code : List ℕ) → SpellsNumber higher code → AppendsNumber old number (new ++ code)
completed_by old out new number rest byte higher before more is h e code s =
    let whole : byte % 128 + 128 * higher ≡ rest = omega arith in
    let spelled = longer_code higher byte code (omega arith) (omega arith) (omega arith) s in
    let t = before (byte ∷ code) (rw whole at spelled) in
    rw (e, append_assoc out (byte ∷ []) code) t

-- a byte that another follows keeps the number within 64 bits
pub group_fits : (group shift : ℕ) → shift < 63 → shift % 7 ≡ 0 → group < 128 → (group + 1) * 2 ^ shift ≤ 2 ^ 64
group_fits group shift room groups small =
    let two : 0 < 2 = omega arith in
    let near : shift ≤ 56 = omega arith in
    let power : 2 ^ shift ≤ 2 ^ 56 = pow-le-pow_right two near in
    let few : group + 1 ≤ 128 = omega arith in
    let most : (group + 1) * 2 ^ shift ≤ 128 * 2 ^ 56 = mul-le-mul few power in
    omega arith

-- so does a last byte
pub end_fits : (byte shift : ℕ) → 7 ≤ shift → shift ≤ 63 → shift % 7 ≡ 0 → byte < 128 → (shift ≡ 63 → byte ≡ 1)
    → (byte + 1) * 2 ^ shift ≤ 2 ^ 64
end_fits byte shift some most groups small one =
    ⊎_elim
    (λ (s : shift < 63). group_fits byte shift s groups small)
    (λ (s : 63 ≤ shift). let full : shift ≡ 63 = omega arith in rw (one full, full) (omega arith))
    (cases_lt shift 63)

-- the last byte
pub one_byte : (old out new : List ℕ) (number rest byte : ℕ)
    → ((code : List ℕ) → SpellsNumber rest code → AppendsNumber old number (out ++ code))
    → rest < 128 → byte ≡ rest → new ≡ out ++ byte ∷ [] → AppendsNumber old number new
one_byte old out new number rest byte before small h e = rw (e, h) (before (rest ∷ []) (record { form = small; value = omega arith }))

-- one byte more at the end
pub begun_more : (old out new : List ℕ) (byte : ℕ) → ((more : List ℕ) × (out ≡ old ++ more)) → new ≡ out ++ byte ∷ []
    → (more : List ℕ) × (new ≡ old ++ more)
begun_more old out new byte h e = (h.0 ++ byte ∷ [], rw (e, h.1) (append_assoc old h.0 (byte ∷ [])))

-- each number up to k has a spelling
pub has_spelling : (k n : ℕ) → n ≤ k → (code : List ℕ) × SpellsNumber n code
has_spelling zero n h = (0 ∷ [], record { form = omega arith; value = omega arith })
has_spelling (suc k) n h =
    ⊎_elim
    (λ (s : n < 128). (n ∷ [], record { form = s; value = omega arith }))
    (λ (s : 128 ≤ n).
    let more = has_spelling k (n / 128) (omega arith) in
    let whole : (128 + n % 128) % 128 + 128 * (n / 128) ≡ n = omega arith in
    ((128 + n % 128) ∷ more.0, rw whole at (longer_code (n / 128) (128 + n % 128) more.0 (omega arith) (omega arith) (omega arith) more.1)))
    (cases_lt n 128)

-- a spelling has as many bytes as the number has digits to base 128, at most
code_length : (k : ℕ) (code : List ℕ) → IsCode code → value_of code < 128 ^ suc k → length code ≤ suc k
code_length k [] p small = absurd p
code_length k (byte ∷ []) p small = omega arith
code_length zero (byte ∷ next ∷ code) p small = let more = p.2 in absurd (omega arith)
code_length (suc k) (byte ∷ next ∷ code) p small =
    let digit : 128 ^ suc (suc k) ≡ 128 ^ suc k * 128 = pow-suc 128 (suc k) in
    let fewer : value_of (next ∷ code) < 128 ^ suc k = omega arith in
    omega (arith, code_length k (next ∷ code) p.3 fewer)

-- ten bytes hold 64 bits
pub ten_bytes : (number : ℕ) (code : List ℕ) → number < 2 ^ 64 → SpellsNumber number code → length code ≤ 10
ten_bytes number code small s = let fits : value_of code < 128 ^ 10 = omega (arith, s.value) in code_length 9 code s.form fits
