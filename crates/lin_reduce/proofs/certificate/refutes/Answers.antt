use Rattle.lin_reduce.proofs.certificate.refutes.Goals as goal

pub returns-in-Ok : goal.returns-in-Ok
returns-in-Ok c = λ yes vs h. c.is_false.ensures yes vs (c.in-Ok.ensures {u = tt} vs h)
