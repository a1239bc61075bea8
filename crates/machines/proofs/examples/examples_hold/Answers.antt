use Rattle.machines.proofs.examples.examples_hold.Goals as goal
use Rattle.machines.proofs.Worked.{stores_wait, stores_arrive, plain_stops, loads_ahead, leaves_out}

pub returns : goal.returns
returns c = record { wait = stores_wait; arrive = stores_arrive; plain = plain_stops; ahead = loads_ahead; order = leaves_out }
