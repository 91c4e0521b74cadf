-- `day_rows::drop_rows` meets its contract: the rows below `i` are dropped and counted, and the rest of the count is to come.
-- Assumes nothing.
use mathlib.Core.Path.{◌≡◌, sym}
use native.Mathlib.Nat.{zero-add}
use native.Mathlib.Omega.{arith}
use Rattle.laws.specs.Search.{count}
use Rattle.laws.proofs.Least.{count_le, count_end}
use Rattle.book.specs.State.{state}
use Rattle.facts.proofs.Written.{sound_facts}
use Rattle.rules.specs.DayChange.{row_dropped, rows_dropped}
use Rattle.day_laws.proofs.Each.{no_turn}
use Rattle.day_rows.specs.Parts.{drops}
use Rattle.laws.proofs.Cases.{counted}
use Rattle.day_rows.proofs.OnEach.{loop_steps, loop_counts}
use Rattle.day_rows.proofs.Rows.{rows_apart, later_named, sound_named}
use Rattle.day_rows.proofs.drop_rows.Goals as goal

pub loop-i-init : goal.loop-i-init
loop-i-init c =
    let t = drops c.args.pass (state c.args.book.now) in
    (omega arith, zero-add (count t 256 0), sym (no_turn t row_dropped (state c.args.book.now)))

pub drop_row-requires : goal.drop_row-requires
drop_row-requires c =
    let first = state c.args.book.now in
    let named = later_named (drops c.args.pass first) first c.loop-i.i (sound_named first (sound_facts first c.requires) c.loop-i.i (omega arith)) in
    (omega arith, rw c.loop-i.invariant.2 named)

pub overflow_add-dropped : goal.overflow_add-dropped
overflow_add-dropped c =
    let a = c.args in
    let first = state a.book.now in
    let r = c.drop_row.ensures in
    omega (
      arith,
      loop_counts (drops a.pass) row_dropped (rows_apart a.pass) first 256 c.loop-i.i c.loop-i.dropped (omega arith) c.loop-i.invariant.2 (counted _ c.from-dropped.ensures r.0) c.loop-i.invariant.1,
      count_le (drops a.pass first) 256 0,
    )

pub loop-i-preserved : goal.loop-i-preserved
loop-i-preserved c =
    let a = c.args in
    let first = state a.book.now in
    let r = c.drop_row.ensures in (
      omega arith,
      loop_counts (drops a.pass) row_dropped (rows_apart a.pass) first 256 c.loop-i.i c.loop-i.dropped (omega arith) c.loop-i.invariant.2 (counted _ c.from-dropped.ensures r.0) c.loop-i.invariant.1,
      loop_steps (drops a.pass) row_dropped (rows_apart a.pass) first c.loop-i.i c.loop-i.invariant.2 r.1,
    )

pub returns : goal.returns
unfolding rows_dropped
returns c =
    let e : c.loop-i.i ≡ 256 = omega arith in
    (omega (arith, count_end (drops c.args.pass (state c.args.book.now)) 256 c.loop-i.i (omega arith)), rw (← e) c.loop-i.invariant.2)
