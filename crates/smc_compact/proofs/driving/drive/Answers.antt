use Rattle.smc_compact.proofs.driving.drive.Goals as goal

pub returns-clause-done : goal.returns-clause-done
returns-clause-done c =
    let h = c.drive_by_calls.ensures.driven in
    (h.calls, record { same = c.drive_by_calls.ensures.same; tells = h.tells; free = λ _. c.drive_by_calls.ensures.none }, h.drives)

pub returns-clause-cause : goal.returns-clause-cause
returns-clause-cause c =
    let h = c.drive_by_calls.ensures.driven in
    (h.calls, record { same = c.drive_by_calls.ensures.same; tells = h.tells; free = λ _. c.drive_by_calls.ensures.none }, h.cause)
