-- Eight bytes as one number, in std's words: a number of w bytes behind zeros, and the w lowest bytes of a number.
-- Assumes nothing.
use mathlib.Core.Path.{◌≡◌, refl, sym, ap, ◌∙◌}
use mathlib.Core.List.{List, ◌∷◌}
use Prim.Native.Nat.{ℕ, zero, suc, ◌+◌, ◌-◌, ◌/◌, ◌%◌, ◌^◌, ◌≤◌}
use native.Mathlib.Nat.{zero-add, add-zero, pow-zero, div-one}
use native.Mathlib.Numerals.{one-add}
use native.Mathlib.Omega.{arith}
use lib.ListN.{length, take, drop, replicate, length-take, length-drop}
use Rattle.std.proofs.lemmas.List.{get_or-replicate}
use lib.Seq.{take_all, drop_at}
use borrow.Rule.Slice.PartMut.{put_mid}
use Rattle.std.specs.Int.{w64, from_be_bytes, to_be_bytes, bytes_high_first, byte_at}
use Rattle.laws.specs.Numbers.{number_at, bytes_of}
use Rattle.laws.proofs.Numbers.{number_split, bytes_split, bytes_length}
use Rattle.laws.proofs.Patches.{patched, lent_back, number_in, number_before, number_part}

-- eight bytes, as std reads and writes them
pub eight_read : (b : List ℕ) → from_be_bytes w64 b ≡ number_at b 0 8
unfolding number_at
eight_read b = omega arith

byte_of : (k x : ℕ) → byte_at k x ≡ x / 256 ^ k % 256
byte_of zero x = rw (pow-zero, div-one)
byte_of (suc k) x = refl

first_byte : (k x : ℕ) → x / 256 ^ k % 256 ∷ bytes_of k x ≡ bytes_of (suc k) x
unfolding bytes_of
first_byte k x = sym (bytes_split 1 k x) ∙ ap (λ (n : ℕ). bytes_of n x) (one-add k)

high_first : (k x : ℕ) → bytes_high_first k x ≡ bytes_of k x
unfolding bytes_of
high_first zero x = refl
high_first (suc k) x = rw (byte_of k x, high_first k x) (first_byte k x)

-- the w lowest of them
pub lowest : (w x : ℕ) → w ≤ 8 → drop (8 - w) (to_be_bytes w64 x) ≡ bytes_of w x
lowest w x h =
    let e : 8 - w + w ≡ 8 = omega arith in
    ap (drop (8 - w)) (high_first 8 x ∙ ap (λ (n : ℕ). bytes_of n x) (sym e) ∙ bytes_split (8 - w) w x)
    ∙ drop_at (bytes_of (8 - w) (x / 256 ^ w)) (bytes_of w x) (8 - w) (bytes_length (8 - w) (x / 256 ^ w))

-- zeros are the number 0
zeros : (n w : ℕ) → w ≤ n → number_at (replicate n 0) 0 w ≡ 0
unfolding number_at
zeros n zero h = refl
zeros n (suc w) h = rw (zero-add w, get_or-replicate {A = ℕ} n w 0 0 (omega arith)) (omega (arith, zeros n w (omega arith)))

-- w bytes behind zeros
pub behind_zeros : (b : List ℕ) (w at : ℕ) {ys : List ℕ} → w ≤ 8 → at + w ≤ length b → ys ≡ take (at + w - at) (drop at b) → from_be_bytes w64 (put_mid (8 - w) (8 - (8 - w)) (replicate 8 0) ys) ≡ number_at b at w
behind_zeros b w at few room same =
    let ys = take w (drop at b) in
    let none : List ℕ = replicate 8 0 in
    let size : 8 - (8 - w) ≡ w = omega arith in
    let part : at + w - at ≡ w = omega arith in
    let long : length ys ≡ w = simp (length-take, length-drop) (omega arith) in
    let whole = patched none (8 - w) w ys in
    let high : number_at whole 0 (8 - w) ≡ 0 = number_before none ys (8 - w) w long (omega arith) 0 (8 - w) (omega arith) ∙ zeros 8 (8 - w) (omega arith) in
    let low : number_at whole (8 - w) w ≡ number_at b at w =
    ap (λ (p : ℕ). number_at whole p w) (sym (add-zero (8 - w))) ∙ number_in none ys (8 - w) w long (omega arith) 0 w (omega arith) ∙ number_part b at w 0 w (omega arith) ∙ ap (λ (p : ℕ). number_at b p w) (add-zero at) in
    let eight : 8 ≡ 8 - w + w = omega arith in
    rw (same, part, size, lent_back none ys (8 - w) w)
    (eight_read whole
    ∙ ap (λ (n : ℕ). number_at whole 0 n) eight
    ∙ number_split whole 0 (8 - w) w
    ∙ rw (high, zero-add (8 - w), low) (omega arith))

-- the w lowest bytes of a number in a part
pub part_put : (b : List ℕ) (at w x : ℕ) {xs ys : List ℕ} → w ≤ 8 → xs ≡ to_be_bytes w64 x → ys ≡ take (8 - (8 - w)) (drop (8 - w) xs) → put_mid at (at + w - at) b ys ≡ patched b at w (bytes_of w x)
part_put b at w x few e g =
    let size : at + w - at ≡ w = omega arith in
    let all : take (8 - (8 - w)) (bytes_of w x) ≡ bytes_of w x = take_all (8 - (8 - w)) (bytes_of w x) (omega (arith, bytes_length w x)) in
    rw (size, g, e, lowest w x few, all) (lent_back b (bytes_of w x) at w)
