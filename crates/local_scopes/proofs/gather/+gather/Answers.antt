use Rattle.local_scopes.proofs.Walked.{tree-told, if-two, if-three, rescue-two, rescue-three}
use Rattle.local_scopes.proofs.gather.+gather.Goals as goal

pub tree-returns : goal.tree-returns
tree-returns t c = tree-told c.args.symbols.now c.args.node.now _ _ _ c.kind.ensures

pub control-returns-in-Some : goal.control-returns-in-Some
control-returns-in-Some t c =
    if-three c.args.symbols.now c.args.known.now c.three.new.known c.three.result c.in-If.test c.in-If.then c.in-If.last c.deref-in-Some.result.now c.deref-in-Some-2.result.now
    c.deref-in-Some.ensures c.deref-in-Some-2.ensures c.args.control.now c.in-Some.last c.deref-in-Some-3.result.now c.deref-in-Some-3.ensures c.in-If.is c.in-Some.is c.three.ensures

pub control-returns-in-None : goal.control-returns-in-None
control-returns-in-None t c =
    if-two c.args.symbols.now c.args.known.now c.two.new.known c.two.result c.in-If.test c.in-If.then c.in-If.last c.deref-in-None.result.now c.deref-in-None-2.result.now
    c.deref-in-None.ensures c.deref-in-None-2.ensures c.args.control.now c.in-If.is c.in-None.is c.two.ensures

pub handler-returns-in-Some : goal.handler-returns-in-Some
handler-returns-in-Some t c =
    rescue-three c.args.symbols.now c.args.known.now c.three.new.known c.three.result c.in-Rescue.body c.in-Rescue.sequence c.in-Rescue.last c.deref.result.now c.deref-in-Some.result.now
    c.deref.ensures c.deref-in-Some.ensures c.args.handler.now c.in-Some.last c.deref-in-Some-2.result.now c.deref-in-Some-2.ensures c.in-Rescue.is c.in-Some.is c.three.ensures

pub handler-returns-in-None : goal.handler-returns-in-None
handler-returns-in-None t c =
    rescue-two c.args.symbols.now c.args.known.now c.two.new.known c.two.result c.in-Rescue.body c.in-Rescue.sequence c.in-Rescue.last c.deref-in-None.result.now c.deref-in-None-2.result.now
    c.deref-in-None.ensures c.deref-in-None-2.ensures c.args.handler.now c.in-Rescue.is c.in-None.is c.two.ensures
