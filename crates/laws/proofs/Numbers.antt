-- Numbers as bytes: how many, what they read as, and what a number reads and writes as.
-- Assumes nothing.
use mathlib.Core.Path.{◌≡◌, refl, sym}
use mathlib.Core.List.{List, [], ◌∷◌, ◌++◌, append-nil, append_assoc}
use Prim.Native.Nat.{ℕ, zero, suc, ◌+◌, ◌*◌, ◌/◌, ◌%◌, ◌^◌, ◌≤◌, ◌<◌}
use native.Mathlib.Nat.{add-zero, add-suc, add_assoc, mul_assoc, pow-zero, pow-suc, pow-succ', div-one, div-div-eq-div-mul, div-add-mod'}
use native.Mathlib.Omega.{arith}
use lib.ListN.{length, get_or, take, drop, length-append, length-drop, get_or-append}
use lib.Seq.{take-suc, get_or-drop, get_or_at}
use Rattle.laws.specs.Numbers.{number_at, bytes_of}

pub number_first : (b : List ℕ) (at : ℕ) → 0 ≡ number_at b at 0
unfolding number_at
number_first b at = refl

-- the same bytes, the same number
pub number_same : (b c : List ℕ) (p q w : ℕ) → ((i : ℕ) → i < w → get_or b (p + i) 0 ≡ get_or c (q + i) 0) → number_at b p w ≡ number_at c q w
unfolding number_at
number_same b c p q zero h = refl
number_same b c p q (suc w) h = omega (arith, number_same b c p q w (λ i l. h i (omega arith)), h w (omega arith))

pub bytes_length : (w x : ℕ) → length (bytes_of w x) ≡ w
unfolding bytes_of
bytes_length zero x = refl
bytes_length (suc w) x = simp (length-append, bytes_length w (x / 256)) (omega arith)

-- the bytes of a number read as the number
pub number_bytes : (w x : ℕ) → x < 256 ^ w → number_at (bytes_of w x) 0 w ≡ x
unfolding number_at bytes_of
number_bytes zero x h = omega arith
number_bytes (suc w) x h =
    let high = bytes_of w (x / 256) in
    let few : x / 256 < 256 ^ w = omega (arith, pow-suc 256 w) in
    let same : number_at (high ++ (x % 256 ∷ [])) 0 w ≡ number_at high 0 w =
    number_same (high ++ (x % 256 ∷ [])) high 0 0 w (λ i l. get_or-append high (x % 256 ∷ []) 0 (0 + i) (omega (arith, bytes_length w (x / 256)))) in
    let last : get_or (high ++ (x % 256 ∷ [])) (0 + w) 0 ≡ x % 256 = get_or_at high (x % 256) [] 0 (0 + w) (omega (arith, bytes_length w (x / 256))) in
    omega (arith, same, number_bytes w (x / 256) few, last, div-add-mod' x 256)

-- the number that bytes read as has those bytes
pub bytes_number : (b : List ℕ) (at w : ℕ) → ((i : ℕ) → get_or b i 0 < 256) → at + w ≤ length b → bytes_of w (number_at b at w) ≡ take w (drop at b)
unfolding number_at bytes_of
bytes_number b at zero h l = refl
bytes_number b at (suc w) h l =
    let n = number_at b at w in
    let d = get_or b (at + w) 0 in
    let quotient : (n * 256 + d) / 256 ≡ n = omega (arith, h (at + w)) in
    let rest : (n * 256 + d) % 256 ≡ d = omega (arith, h (at + w)) in
    let long : w < length (drop at b) = simp length-drop (omega arith) in
    rw (quotient, rest, bytes_number b at w h (omega arith), take-suc (drop at b) w 0 long, get_or-drop at b w 0)

-- a number in two parts, the higher bytes and the lower
pub number_split : (b : List ℕ) (at w v : ℕ) → number_at b at (w + v) ≡ number_at b at w * 256 ^ v + number_at b (at + w) v
unfolding number_at
number_split b at w zero = rw (add-zero w, pow-zero) (omega arith)
number_split b at w (suc v) =
    let high = number_at b at w in
    let shift : high * 256 ^ suc v ≡ high * 256 ^ v * 256 = rw pow-suc (sym (mul_assoc high (256 ^ v) 256)) in
    rw (add-suc w v, shift, number_split b at w v, ← add_assoc at w v) (omega arith)

-- one byte, and two parts of the same width, as the code puts them together
pub number_one : (b : List ℕ) (at : ℕ) {n : ℕ} → n ≡ get_or b at 0 → n ≡ number_at b at 1
unfolding number_at
number_one b at e = rw add-zero (omega arith)

pub number_halves : (w : ℕ) (b : List ℕ) (at : ℕ) {m n : ℕ} → m ≡ number_at b at w → n ≡ number_at b (at + w) w → m * 256 ^ w + n ≡ number_at b at (w + w)
number_halves w b at e g = rw (e, g) (sym (number_split b at w w))

-- and its bytes
pub bytes_split : (w v x : ℕ) → bytes_of (w + v) x ≡ bytes_of w (x / 256 ^ v) ++ bytes_of v x
unfolding bytes_of
bytes_split w zero x = rw (add-zero w, pow-zero, div-one, append-nil)
bytes_split w (suc v) x = rw (add-suc w v, bytes_split w v (x / 256), div-div-eq-div-mul, ← pow-succ' 256 v, append_assoc)

-- bytes read as a number that they can hold
pub number_small : (b : List ℕ) (at w : ℕ) → ((i : ℕ) → get_or b i 0 < 256) → number_at b at w < 256 ^ w
unfolding number_at
number_small b at zero h = rw pow-zero (omega arith)
number_small b at (suc w) h = omega (arith, pow-suc 256 w, number_small b at w h, h (at + w))
