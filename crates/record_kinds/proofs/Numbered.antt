-- The kinds by their names: each is one of the table's.
-- Assumes nothing.
use Prim.Native.Nat.{◌<◌}
use native.Mathlib.Omega.{arith}
use Rattle.record_kinds.specs.Numbered.{kind_number}
use Rattle.record_kinds.specs.Typed.{kind_count}
use Rattle.record_kinds.specs.declared.Kind.{Kind}
use Rattle.record_kinds.specs.declared.Kind.TheVariants.{Opening, Price, Participant, Basket, Deposit, Withdrawal, Fop, Return, Cancel, Settle, Mark, Recall, NextDay}

pub kind_below : (kind : Kind) → kind_number kind < kind_count
kind_below Opening = omega arith
kind_below Price = omega arith
kind_below Participant = omega arith
kind_below Basket = omega arith
kind_below Deposit = omega arith
kind_below Withdrawal = omega arith
kind_below Fop = omega arith
kind_below Return = omega arith
kind_below Cancel = omega arith
kind_below Settle = omega arith
kind_below Mark = omega arith
kind_below Recall = omega arith
kind_below NextDay = omega arith
