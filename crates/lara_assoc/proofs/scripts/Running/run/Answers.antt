use Rattle.lara_assoc.proofs.scripts.Running.run.Goals as goal

pub returns-in-Assign : goal.returns-in-Assign
returns-in-Assign g c = λ r stands. rw c.in-Assign.is (c.assign.ensures r stands)
