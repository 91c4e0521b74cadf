-- The digits that `io::decimal` gives are the numeral.
-- Assumes nothing.
use mathlib.Core.Path.{◌≡◌}
use Prim.Native.Nat.{ℕ, zero, suc, ◌+◌, ◌*◌, ◌-◌, ◌/◌, ◌%◌, ◌^◌, ◌≤◌, ◌<◌}
use native.Mathlib.Nat.{pow-suc, one-le-pow}
use native.Mathlib.Omega.{arith}
use borrow.Author.Tests.{lt-ltb, le-ltb}
use Rattle.io.specs.Digits.{hex_digit_ascii, last_digits, IsDigitCount}
use Rattle.line_text.specs.Text.{numeral_within, numeral}

-- a digit of base ten in ASCII
digit : (n : ℕ) → hex_digit_ascii (n % 10) ≡ 48 + n % 10
digit n = rw (lt-ltb (n % 10) 10 (omega arith))

-- k digits, as few as hold n, are all that a numeral of any greater size has
few : (k n m : ℕ) → n < m → n < 10 ^ suc k → (0 < k → 10 ^ k ≤ n) → last_digits 10 (suc k) n ≡ numeral_within m n
unfolding numeral_within
few k n zero within below above = absurd (omega arith)
few zero n (suc m) within below above = rw (digit n, lt-ltb n 10 below)
few (suc k) n (suc m) within below above =
    let most : n < 10 ^ suc k * 10 = rw (← pow-suc 10 (suc k)) below in
    let least : 10 ^ k * 10 ≤ n = rw (← pow-suc 10 k) (above (omega arith)) in
    let some : 1 ≤ 10 ^ k = one-le-pow k 10 (omega arith) in
    rw (digit n, le-ltb n 10 (omega arith), few k (n / 10) m (omega arith) (omega arith) (λ h. omega arith))

pub decimal_numeral : (n k : ℕ) → IsDigitCount 10 1 n k → last_digits 10 k n ≡ numeral n
unfolding numeral
decimal_numeral n zero f = absurd (omega arith)
decimal_numeral n (suc k) f =
    let one_less : suc k - 1 ≡ k = omega arith in
    few k n (suc n) (omega arith) f.1 (λ h. rw one_less at (f.2 (omega arith)))
