use Rattle.std.proofs.Common.{◌≡◌, ℕ, ◌+◌, ◌*◌, ◌≤◌, length}
use Rattle.json.specs.Json.{items, members, value, parse_map}
use Rattle.serde_json.specs.Data.{no_members}
use Rattle.serde_json.specs.Read.{of_items, of_members, converted}
use Rattle.cacao_json_counts.specs.Counts.{members_of_items, members_of_pairs}
use Rattle.cacao_json.specs.Profile.{AreFormed, AreFormedMembers}
use Rattle.cacao_json.specs.Straight.{keys_in, entries_data}
use Rattle.cacao_json.proofs.Trees.{data_items}
use Rattle.cacao_json.proofs.StraightLemmas.{trees_before}
use Rattle.cacao_json.proofs.straight.+straight.Given as goal

abbrev pub decreases-read : goal.decreases-read
decreases-read l = 3 * l.depth

abbrev pub decreases-read_items : goal.decreases-read_items
decreases-read_items l = 3 * l.depth + 1

abbrev pub decreases-read_members : goal.decreases-read_members
decreases-read_members l = 3 * l.depth + 2

abbrev pub decreases-read_wide : goal.decreases-read_wide
decreases-read_wide l = 3 * l.depth + 1

abbrev pub invariant-read_items-items : goal.invariant-read_items-items
invariant-read_items-items l =
    (n : ℕ) × (length l.reader ≤ n)
    × (converted of_items (items (value l.depth) (length l.initial.reader) l.initial.reader) ≡ parse_map (trees_before l.found.items) (converted of_items (items (value l.depth) n l.reader)))
    × (length l.reader ≤ length l.initial.reader)
    × (keys_in l.initial.reader ≡ members_of_items (data_items l.found.items) + keys_in l.reader)
    × AreFormed (data_items l.found.items)

abbrev pub decreases-read_items-items : goal.decreases-read_items-items
decreases-read_items-items l = length l.reader

abbrev pub invariant-read_members-members : goal.invariant-read_members-members
invariant-read_members-members l =
    (n : ℕ) × (length l.reader ≤ n)
    × (converted (λ js. of_members js no_members) (members (value l.depth) (length l.initial.reader) l.initial.reader) ≡ converted (λ js. of_members js l.found) (members (value l.depth) n l.reader))
    × (length l.reader ≤ length l.initial.reader)
    × (keys_in l.initial.reader ≡ members_of_pairs l.found + keys_in l.reader)
    × AreFormedMembers l.found

abbrev pub decreases-read_members-members : goal.decreases-read_members-members
decreases-read_members-members l = length l.reader

abbrev pub invariant-read_wide-members : goal.invariant-read_wide-members
invariant-read_wide-members l =
    ((n : ℕ) → length l.initial.reader ≤ n → (m : ℕ) × (length l.reader ≤ m)
    × (converted (λ js. of_members js (entries_data l.fn.map.entries)) (members (value l.depth) n l.initial.reader) ≡ converted (λ js. of_members js (entries_data l.found.entries)) (members (value l.depth) m l.reader)))
    × (length l.reader ≤ length l.initial.reader)
    × (members_of_pairs (entries_data l.fn.map.entries) + keys_in l.initial.reader ≡ members_of_pairs (entries_data l.found.entries) + keys_in l.reader)
    × AreFormedMembers (entries_data l.found.entries)

abbrev pub decreases-read_wide-members : goal.decreases-read_wide-members
decreases-read_wide-members l = length l.reader
