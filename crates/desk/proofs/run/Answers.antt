-- `desk::run` meets its contract.
-- Assumes nothing.
use Rattle.std.proofs.lemmas.Result.{on_ok_weaker}
use Rattle.desk.proofs.Streams.{ends}
use Rattle.desk.proofs.run.Goals as goal

pub returns-clause-prints : goal.returns-clause-prints
returns-clause-prints g c =
    let served = c.in_ok-serve.ensures in
    on_ok_weaker c.finish.result (ends _ _ _ _ _ _ _ _ served.streams served.over) c.finish.ensures.wrote
