-- The tally in bytes: "counts of 4 bytes in the order above", to which No. 2 adds "one count for each case": nine, 36 bytes.
use Rattle.std.specs.Prelude.{Bool, List, ◌++◌, ℕ, eqb, length}
use Rattle.bits.specs.Numbers.{bytes}
use Rattle.protocol.specs.declared.Case.TheVariants.{Adopted, NotTentative, Unconnected, NotGreater}
use Rattle.protocol.specs.declared.Replies.{Replies}
use Rattle.protocol.specs.declared.Tally.{Tally}
use Rattle.protocol.specs.Runs.{case_count}

abbrev pub tally_length : ℕ
tally_length = 36

abbrev pub tally_fits : List ℕ → Bool
tally_fits t = eqb (length t) tally_length

-- the replies' counts, in the order of the cases
unfoldable pub replies_bytes : Replies → List ℕ
replies_bytes r =
    bytes 4 (case_count r Adopted) ++ bytes 4 (case_count r NotTentative) ++ bytes 4 (case_count r Unconnected) ++ bytes 4 (case_count r NotGreater)

unfoldable pub tally_bytes : Tally → List ℕ
tally_bytes t =
    bytes 4 t.accepted ++ bytes 4 t.refused ++ bytes 4 t.sent ++ bytes 4 t.delivered ++ bytes 4 t.lost
    ++ replies_bytes t.replies
