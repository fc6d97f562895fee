-- The definitions on small trees, with answers written by hand.
use Rattle.std.proofs.Common.{◌≡◌, [], ◌∷◌, map, codes, Some, None, refl}
use Rattle.serde_json.specs.Data.{Data, unsigned, number, string, object, no_members, member}
use Rattle.cacao_book.specs.Books.{book, argument}

name_of_a_reference : argument (codes "__a__:value") ≡ codes "__a__"
name_of_a_reference = refl

name_of_a_name : argument (codes "__a__") ≡ codes "__a__"
name_of_a_name = refl

-- two steps that stand in the other order
small : Data
small = object (member (codes "id") (string (codes "playbook--1")) (member (codes "workflow") (object
    (member (codes "start--2") (object (member (codes "on_completion") (string (codes "end--3")) (member (codes "type") (string (codes "start")) no_members)))
    (member (codes "end--3") (object (member (codes "delay") (number (unsigned 7)) (member (codes "type") (string (codes "end")) no_members))) no_members)))
    (member (codes "workflow_start") (string (codes "start--2")) no_members)))

keys : map (λ s. s.key) (book small).steps ≡ codes "end--3" ∷ codes "start--2" ∷ []
unfolding small
keys = refl

delays : map (λ s. s.delay) (book small).steps ≡ 7 ∷ 0 ∷ []
unfolding small
delays = refl

timeouts : map (λ s. s.timeout) (book small).steps ≡ 60000 ∷ 60000 ∷ []
unfolding small
timeouts = refl

completions : map (λ s. s.completion) (book small).steps ≡ None ∷ Some (codes "end--3") ∷ []
unfolding small
completions = refl
