-- How long the layouts are, and lists of entries.
use Rattle.std.proofs.Common.{ℕ, ◌*◌, ◌≤◌, List, [], ◌∷◌, length, refl, arith, length-append}
use Rattle.std.specs.List.{flat_map, AllByRecursion}
use Rattle.run_records.specs.declared.record.Record.TheVariants.{Begin, Walk, Send, Reply, Expire, Upgrade, Ask, Told}
use Rattle.run_records.specs.Layout.{string, layout, act_layout}
use Rattle.run_records.specs.Ranges.{IsShort}
use Rattle.run_records.specs.Laws.{RecordsAreShort, ActsAreShort, RecordsReadBack, ActsReadBack}
use Rattle.run_records.proofs.ReadLemmas.{record_again, act_again}

length-strings : (texts : List (List ℕ)) → AllByRecursion IsShort texts → length (flat_map string texts) ≤ 1_048_580 * length texts
length-strings [] short = omega arith
length-strings (text ∷ texts) short =
    omega (arith, length-append text (flat_map string texts), length-strings texts short.1, short.0)

pub records_are_short : RecordsAreShort
unfolding layout
records_are_short (Begin run moment books bind) h =
    omega (arith, length-append (flat_map string books) (string bind), length-strings books h.short_books, h.few_books, h.short_bind)
records_are_short (Walk task moment) h = omega arith
records_are_short (Send task issue agent moment bytes) h = omega (arith, h.short_bytes)
records_are_short (Reply issue moment status rule text) h = omega (arith, h.short_text)
records_are_short (Expire issue moment) h = omega arith
records_are_short (Upgrade version moment) h = omega arith
records_are_short (Ask task issue moment text) h = omega (arith, h.short_text)
records_are_short (Told issue moment status text) h = omega (arith, h.short_text)

pub acts_are_short : ActsAreShort
unfolding act_layout
acts_are_short a h = omega (arith, length-append a.command (string a.reply), h.short_command, h.short_reply)

pub records_read_back : RecordsReadBack
records_read_back [] h = refl
records_read_back (r ∷ rs) h = rw (record_again r h.0, records_read_back rs h.1) refl

pub acts_read_back : ActsReadBack
acts_read_back [] h = refl
acts_read_back (a ∷ list) h = rw (act_again a h.0, acts_read_back list h.1) refl
