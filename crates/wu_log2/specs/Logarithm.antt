-- The binary logarithm by repeated squaring, as Knuth gives it for base ten in The Art of Computer Programming,
-- volume 1, section 1.2.2.
use Rattle.std.specs.Prelude.{ℕ, zero, suc, ◌+◌, ◌*◌, ◌/◌, ◌^◌, nat_le, if◌then◌else◌}

-- the greatest place up to k of a power of two that n reaches, and 0 where it reaches none
unfoldable pub highest_place : ℕ → ℕ → ℕ
highest_place zero n = 0
highest_place (suc k) n = if nat_le (2 ^ suc k) n then suc k else highest_place k n

-- the number so far with k more binary digits of log2 (mantissa / 2^31) at its end, for a mantissa from 2^31 up to 2^32.
-- Where the square of mantissa / 2^31 reaches 2 the digit is 1 and the square is halved.
unfoldable pub with_digits : ℕ → ℕ → ℕ → ℕ
with_digits zero so_far mantissa = so_far
with_digits (suc k) so_far mantissa =
    if nat_le (2 ^ 63) (mantissa * mantissa) then
    with_digits k (2 * so_far + 1) (mantissa * mantissa / 2 ^ 32)
    else
    with_digits k (2 * so_far) (mantissa * mantissa / 2 ^ 31)

-- the binary logarithm of n, from 1 to 2^64 - 1, in units of 1/65536
unfoldable pub lg : ℕ → ℕ
lg n = with_digits 16 (highest_place 63 n) (n * 2 ^ 31 / 2 ^ highest_place 63 n)
