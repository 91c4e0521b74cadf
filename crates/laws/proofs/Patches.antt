-- Bytes put into a list at a place: what stands there and elsewhere, as bytes and as numbers.
-- Assumes nothing.
use mathlib.Core.Path.{◌≡◌, sym, ap, ◌∙◌}
use mathlib.Core.List.{List, [], ◌∷◌, ◌++◌, append-nil, append_assoc}
use Prim.Native.Nat.{ℕ, ◌+◌, ◌-◌, ◌/◌, ◌%◌, ◌^◌, ◌≤◌, ◌<◌}
use native.Mathlib.Nat.{add-zero, add_assoc}
use native.Mathlib.Omega.{arith}
use lib.ListN.{length, get_or, take, drop, set, take-append-drop, length-append, length-drop, get_or-append}
use lib.Seq.{length-take-le, get_or-take, get_or-drop, get_or-append-add, drop-drop, take_at, drop_at, sets-eq}
use Rattle.laws.specs.Numbers.{number_at, bytes_of}
use Rattle.laws.proofs.Numbers.{number_same, bytes_length, bytes_split}

-- the list b with the n bytes of ys at a place
abbrev pub patched : List ℕ → ℕ → ℕ → List ℕ → List ℕ
patched b at n ys = take at b ++ ys ++ drop (at + n) b

-- past the first of two lists
pub get_d_past : (xs ys : List ℕ) (at i : ℕ) → length xs ≡ at → get_or (xs ++ ys) (at + i) 0 ≡ get_or ys i 0
get_d_past xs ys at i e = rw (← e) (get_or-append-add xs ys i 0)

module _ (b ys : List ℕ) (at n : ℕ) (long : length ys ≡ n) (room : at + n ≤ length b) where
  front : length (take at b) ≡ at
  front = length-take-le at b (omega arith)

  middle : length (take at b ++ ys) ≡ at + n
  middle = simp (length-append, front) (omega arith)

  pub patch_length : length (patched b at n ys) ≡ length b
  patch_length = simp (length-append, front, length-drop) (omega arith)

  pub patch_in : (i : ℕ) → i < n → get_or (patched b at n ys) (at + i) 0 ≡ get_or ys i 0
  patch_in i h = get_or-append (take at b ++ ys) (drop (at + n) b) 0 (at + i) (omega (arith, middle)) ∙ get_d_past (take at b) ys at i front

  pub patch_before : (i : ℕ) → i < at → get_or (patched b at n ys) i 0 ≡ get_or b i 0
  patch_before i h =
      get_or-append (take at b ++ ys) (drop (at + n) b) 0 i (omega (arith, middle))
      ∙ get_or-append (take at b) ys 0 i (omega (arith, front))
      ∙ get_or-take at b i 0 h

  pub patch_after : (i : ℕ) → get_or (patched b at n ys) (at + n + i) 0 ≡ get_or b (at + n + i) 0
  patch_after i = get_d_past (take at b ++ ys) (drop (at + n) b) (at + n) i middle ∙ get_or-drop (at + n) b i 0

  -- a number among the new bytes
  pub number_in : (q w : ℕ) → q + w ≤ n → number_at (patched b at n ys) (at + q) w ≡ number_at ys q w
  number_in q w h = number_same (patched b at n ys) ys (at + q) q w (λ i l. rw (add_assoc at q i) (patch_in (q + i) (omega arith)))

  -- a number before them, and one after them
  pub number_before : (p w : ℕ) → p + w ≤ at → number_at (patched b at n ys) p w ≡ number_at b p w
  number_before p w h = number_same (patched b at n ys) b p p w (λ i l. patch_before (p + i) (omega arith))

  pub number_after : (p w : ℕ) → at + n ≤ p → number_at (patched b at n ys) p w ≡ number_at b p w
  number_after p w h =
      number_same (patched b at n ys) b p p w (λ i l. let e : p + i ≡ at + n + (p + i - (at + n)) = omega arith in rw e (patch_after (p + i - (at + n))))

-- one put after the other
pub patch_next : (b ys zs : List ℕ) (at m n : ℕ) → length ys ≡ m → at + m ≤ length b → patched (patched b at m ys) (at + m) n zs ≡ patched b at (m + n) (ys ++ zs)
patch_next b ys zs at m n long room =
    let begin = take at b ++ ys in
    let size : length begin ≡ at + m = middle b ys at m long room in
    let tail : drop (at + m + n) (patched b at m ys) ≡ drop (at + m + n) b =
    sym (drop-drop n (at + m) (patched b at m ys)) ∙ ap (drop n) (drop_at begin (drop (at + m) b) (at + m) size) ∙ drop-drop n (at + m) b in
    rw (take_at begin (drop (at + m) b) (at + m) size, tail, append_assoc (take at b) ys zs, add_assoc at m n)

-- the bytes of a number: none, the lowest, by their halves, and in a width that is known
pub put_none : (b : List ℕ) (at w x : ℕ) → w ≡ 0 → b ≡ patched b at w (bytes_of w x)
unfolding bytes_of
put_none b at w x e = rw (e, append-nil, add-zero) (sym (take-append-drop at b))

pub put_byte : (b : List ℕ) (at x : ℕ) → at + 1 ≤ length b → set b at (x % 256) ≡ patched b at 1 (bytes_of 1 x)
unfolding bytes_of
put_byte b at x h = sets-eq (x % 256 ∷ []) b at h

pub put_halves : (w : ℕ) (b c d : List ℕ) (at x : ℕ) → at + (w + w) ≤ length b → c ≡ patched b at w (bytes_of w (x / 256 ^ w)) → d ≡ patched c (at + w) w (bytes_of w x) → d ≡ patched b at (w + w) (bytes_of (w + w) x)
put_halves w b c d at x h e g =
    let high = bytes_of w (x / 256 ^ w) in
    g
    ∙ ap (λ (l : List ℕ). patched l (at + w) w (bytes_of w x)) e
    ∙ patch_next b high (bytes_of w x) at w w (bytes_length w (x / 256 ^ w)) (omega arith)
    ∙ ap (patched b at (w + w)) (sym (bytes_split w w x))

pub put_width : (v : ℕ) (b c : List ℕ) (at w x : ℕ) → w ≡ v → c ≡ patched b at v (bytes_of v x) → c ≡ patched b at w (bytes_of w x)
put_width v b c at w x e g = rw e g

-- a part that was lent and came back
pub lent_back : (b ys : List ℕ) (at n : ℕ) → take at b ++ (ys ++ drop n (drop at b)) ≡ patched b at n ys
lent_back b ys at n = rw (drop-drop n at b, append_assoc)

-- a number in a part is that of the whole
pub number_part : (b : List ℕ) (at n q w : ℕ) → q + w ≤ n → number_at (take n (drop at b)) q w ≡ number_at b (at + q) w
number_part b at n q w h =
    number_same (take n (drop at b)) b q (at + q) w (λ i l. get_or-take n (drop at b) (q + i) 0 (omega arith) ∙ rw (get_or-drop at b (q + i) 0, add_assoc at q i))
