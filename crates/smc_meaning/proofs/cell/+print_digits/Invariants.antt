use Rattle.smc_meaning.proofs.cell.+print_digits.Given as goal

abbrev pub decreases-print_digits : goal.decreases-print_digits
decreases-print_digits l = l.count
