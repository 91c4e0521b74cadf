-- A FOP put at its places, one field after the other.
-- Assumes nothing.
use mathlib.Core.Path.{◌≡◌, refl}
use mathlib.Core.List.{List, ◌++◌}
use Prim.Native.Nat.{ℕ}
use native.Mathlib.Omega.{arith}
use lib.Dec.{lit≤}
use lib.ListN.{length, get_or, drop}
use Rattle.laws.specs.Numbers.{bytes_of}
use Rattle.laws.specs.Sum.{sum}
use Rattle.laws.proofs.Patches.{patched}
use Rattle.record_kinds.specs.Kinds.{kinds, field_of, offset_of, length_of}
use Rattle.records.specs.Writing.{record_bytes_to, record_bytes}
use Rattle.records.proofs.Images.{fill_next, fill_whole}

pub fop_length : {k n : ℕ} → k ≡ 6 → n ≡ length_of k → n ≡ 29
unfolding kinds offset_of sum
fop_length e g = rw e at g

module _ (fields d : List ℕ) where
  -- the kind and the fields of one byte
  pub parties_put : {p0 p1 p2 p3 p4 : List ℕ}
      → p0 ≡ patched d 0 1 (bytes_of 1 6)
      → p1 ≡ patched p0 1 1 (bytes_of 1 (get_or fields 0 0))
      → p2 ≡ patched p1 2 1 (bytes_of 1 (get_or fields 1 0))
      → p3 ≡ patched p2 3 1 (bytes_of 1 (get_or fields 2 0))
      → p4 ≡ patched p3 4 1 (bytes_of 1 (get_or fields 3 0))
      → p4 ≡ record_bytes_to 6 fields 4 ++ drop 5 d
  unfolding kinds offset_of sum record_bytes_to bytes_of
  parties_put {p0} {p1} {p2} {p3} {p4} e0 e1 e2 e3 e4 =
      fill_next 6 fields d 3 p3 {at = 4} {f = field_of 6 3} refl refl
      (fill_next 6 fields d 2 p2 {at = 3} {f = field_of 6 2} refl refl
      (fill_next 6 fields d 1 p1 {at = 2} {f = field_of 6 1} refl refl
      (fill_next 6 fields d 0 p0 {at = 1} {f = field_of 6 0} refl refl e0 e1) e2) e3) e4

  -- the others
  pub fop_put : {p4 p5 p6 p7 p8 : List ℕ} → length d ≡ 29
      → p4 ≡ record_bytes_to 6 fields 4 ++ drop 5 d
      → p5 ≡ patched p4 5 8 (bytes_of 8 (get_or fields 4 0))
      → p6 ≡ patched p5 13 4 (bytes_of 4 (get_or fields 5 0))
      → p7 ≡ patched p6 17 4 (bytes_of 4 (get_or fields 6 0))
      → p8 ≡ patched p7 21 8 (bytes_of 8 (get_or fields 7 0))
      → p8 ≡ record_bytes 6 fields
  unfolding kinds offset_of sum
  fop_put {p4} {p5} {p6} {p7} {p8} long f4 e5 e6 e7 e8 =
      fill_whole 6 fields d 8 p8 (lit≤ tt) refl (omega arith)
      (fill_next 6 fields d 7 p7 {at = 21} {f = field_of 6 7} refl refl
      (fill_next 6 fields d 6 p6 {at = 17} {f = field_of 6 6} refl refl
      (fill_next 6 fields d 5 p5 {at = 13} {f = field_of 6 5} refl refl
      (fill_next 6 fields d 4 p4 {at = 5} {f = field_of 6 4} refl refl f4 e5) e6) e7) e8)
