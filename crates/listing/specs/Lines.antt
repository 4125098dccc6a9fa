-- The lines of the listing, over the book's net.
use Rattle.std.specs.Prelude.{List, [], ◌∷◌, ◌++◌, ℕ}
use Rattle.protocol.specs.declared.Case.TheVariants.{Adopted, NotTentative, Unconnected, NotGreater}
use Rattle.protocol.specs.declared.Replies.{Replies}
use Rattle.protocol.specs.declared.Tally.{Tally}
use Rattle.protocol.specs.Net.{Net, in_channels}
use Rattle.protocol.specs.Runs.{case_count}
use Rattle.text.specs.Text.{text, filled, each, mask_list, or_dash, hex}

-- "The first line is the tally and the messages left in channels"
unfoldable pub run_line : Tally → ℕ → List ℕ
run_line t left =
    filled (text "run accepted # refused # sent # delivered # lost # waiting #\n")
    (t.accepted ∷ t.refused ∷ t.sent ∷ t.delivered ∷ t.lost ∷ left ∷ [])

-- "a second gives the four counts"
unfoldable pub replies_line : Replies → List ℕ
replies_line r =
    filled (text "replies adopted # not-tentative # unconnected # not-greater #\n")
    (case_count r Adopted ∷ case_count r NotTentative ∷ case_count r Unconnected ∷ case_count r NotGreater ∷ [])

-- "a line for each station, opening with its number": "`-` is nil or none; children rise, split by commas". What is a dash in print is
-- nil in the net (`same-nil`, proofs/Dashes.antt)
unfoldable pub station_line : Net → ℕ → ℕ → List ℕ
station_line N g p =
    filled (text "# parent @ clock # member # children ") (p ∷ (N.entry g p).parent ∷ (N.entry g p).clock ∷ (N.entry g p).member ∷ [])
    ++ or_dash (mask_list (N.entry g p).children) ++ text "\n"

abbrev pub station_lines : Net → ℕ → List ℕ
station_lines N g = each N.stations (station_line N g)

-- "for each group, its name in lower-case hex and its root"
unfoldable pub group_line : Net → ℕ → List ℕ
group_line N g = filled (text "group # name ") (g ∷ []) ++ hex (N.name g) ++ filled (text " root #\n") (N.root g ∷ [])

unfoldable pub group_text : Net → ℕ → List ℕ
group_text N g = group_line N g ++ station_lines N g

abbrev pub group_texts : Net → List ℕ
group_texts N = each N.groups (group_text N)

unfoldable pub listing : Net → Tally → List ℕ
listing N t = run_line t (in_channels N) ++ replies_line t.replies ++ group_texts N

-- "On a refusal it prints `refused` and the number only"
unfoldable pub refused_text : ℕ → List ℕ
refused_text k = filled (text "refused #\n") (k ∷ [])
