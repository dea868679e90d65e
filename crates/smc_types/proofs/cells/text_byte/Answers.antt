use Rattle.std.proofs.Common.{◌%◌, List, ℕ, get_or, sym, ap, ◌∙◌}
use Rattle.smc_types.proofs.CellLaws.{byte-bytes_of, byte-text_of}
use Rattle.smc_types.proofs.cells.text_byte.Goals as goal

pub returns-clause-byte : goal.returns-clause-byte
returns-clause-byte c =
    ap (λ (bytes : List ℕ). get_or bytes (c.args.place % 8) 0) c.to_be_bytes-bytes.ensures
    ∙ sym (byte-bytes_of c.args.words.now c.args.place c.requires)

pub returns-clause-text : goal.returns-clause-text
returns-clause-text c width within =
    ap (λ (bytes : List ℕ). get_or bytes (c.args.place % 8) 0) c.to_be_bytes-bytes.ensures
    ∙ sym (byte-bytes_of c.args.words.now c.args.place c.requires)
    ∙ byte-text_of width c.args.words.now c.args.place within
