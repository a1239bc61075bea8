use Rattle.ledger.proofs.Calling.{entered, grown, ruled, struck, taken_in}
use Rattle.ledger.proofs.driver.play.Goals as goal

pub returns-in-Enter-clause-called : goal.returns-in-Enter-clause-called
returns-in-Enter-clause-called g c =
    let machine = c.args.folder.now.machine in
    let k = g.M.OrderedRow.kind machine in
    let u = g.M.Machine.rules machine in
    let n = c.args.folder.now.count in
    let mem = c.args.memory.now in
    let s = c.args.strip.now in
    let t = c.args.witness.now in
    entered k u c.args.call.now n c.min-len.result mem s t c.min-len.ensures c.enter.new.self.count c.enter.new.memory c.enter.auto.memory c.in-Enter.line c.enter.result c.in-Enter.is c.enter.ensures.behind c.enter.ensures.rows

pub returns-in-TakeIn-clause-called : goal.returns-in-TakeIn-clause-called
returns-in-TakeIn-clause-called g c =
    let machine = c.args.folder.now.machine in
    let k = g.M.OrderedRow.kind machine in
    let u = g.M.Machine.rules machine in
    let n = c.args.folder.now.count in
    let mem = c.args.memory.now in
    let s = c.args.strip.now in
    let t = c.args.witness.now in
    taken_in k u c.args.call.now n c.min-len.result mem s t c.min-len.ensures c.take_in.new.self.count c.take_in.new.memory c.take_in.auto.memory c.in-TakeIn.file c.take_in.result c.in-TakeIn.is c.take_in.ensures.behind c.take_in.ensures.rows

pub returns-in-Strike-clause-called : goal.returns-in-Strike-clause-called
returns-in-Strike-clause-called g c =
    let machine = c.args.folder.now.machine in
    let k = g.M.OrderedRow.kind machine in
    let u = g.M.Machine.rules machine in
    let n = c.args.folder.now.count in
    let mem = c.args.memory.now in
    let s = c.args.strip.now in
    let t = c.args.witness.now in
    struck k u c.args.call.now n c.min-len.result mem s t c.min-len.ensures c.strike.new.self.count c.strike.new.memory c.strike.auto.memory c.in-Strike.number c.strike.result c.in-Strike.is c.strike.ensures.behind c.strike.ensures.rows

pub returns-in-Grow-clause-called : goal.returns-in-Grow-clause-called
returns-in-Grow-clause-called g c =
    let machine = c.args.folder.now.machine in
    let k = g.M.OrderedRow.kind machine in
    let u = g.M.Machine.rules machine in
    let n = c.args.folder.now.count in
    let mem = c.args.memory.now in
    let s = c.args.strip.now in
    let t = c.args.witness.now in
    let told = c.grow.ensures in
    grown k u c.args.call.now n c.min-len.result mem s t c.min-len.ensures c.grow.new.self.count c.grow.new.memory c.grow.auto.memory c.min-strip_len.result c.grow.new.strip c.grow.result c.in-Grow.is c.min-strip_len.ensures told.strip told.behind told.rows

pub returns-in-Judge-clause-called : goal.returns-in-Judge-clause-called
returns-in-Judge-clause-called g c =
    let machine = c.args.folder.now.machine in
    let k = g.M.OrderedRow.kind machine in
    let u = g.M.Machine.rules machine in
    let n = c.args.folder.now.count in
    let mem = c.args.memory.now in
    let s = c.args.strip.now in
    let t = c.args.witness.now in
    let told = c.judge.ensures in
    let strip = c.min-strip_len-in-Judge in
    ruled k u c.args.call.now n c.min-len.result mem s t c.min-len.ensures strip.result c.min-witness_len.result c.judge.new.strip c.judge.new.witness c.judge.result c.in-Judge.is strip.ensures c.min-witness_len.ensures told.strip told.witness told.safe told.ruled
