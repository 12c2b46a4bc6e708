use Rattle.lara_types.proofs.scripts.statement_of.Goals as goal

pub returns-in-Assign : goal.returns-in-Assign
returns-in-Assign g c = rw c.in-Assign.is (c.assign.ensures c.in-Assign.at)

pub returns-in-Print : goal.returns-in-Print
returns-in-Print g c = rw c.in-Print.is c.print.ensures

pub returns-in-Store : goal.returns-in-Store
returns-in-Store g c = rw c.in-Store.is c.store.ensures
