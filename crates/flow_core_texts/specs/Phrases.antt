-- Scaffold: Texts whose references were found once.
use Rattle.std.specs.Prelude.{◌≡◌, ℕ, List, ◌++◌, flat_map, Option}
use Rattle.cacao_vars.specs.References.{references, reference_text}
use Rattle.flow_core_rules.specs.Filled.{whole_reference}
use Rattle.flow_core_texts.specs.declared.phrases.Reference.{Reference}

-- the text in which each reference is replaced by what stands for its name
abbrev pub replaced_by : (List ℕ → List ℕ) → List ℕ → List ℕ
replaced_by f text = flat_map (λ found. found.before ++ f found.name) (references text).0 ++ (references text).1

-- the same by references that were found, each with what stands before it
abbrev pub spelled_by : (List ℕ → List ℕ) → List Reference → List ℕ
spelled_by f rs = flat_map (λ r. r.before ++ f r.name) rs

-- the text of references that were found, and of what stands behind the last one
abbrev pub phrase_text : List Reference → List ℕ → List ℕ
phrase_text rs rest = spelled_by reference_text rs ++ rest

-- These are the references of their text, whatever stands for their names; and this is the name where the text is one whole
-- reference.
pub record AreReferences (rs : List Reference) (rest : List ℕ) (whole : Option (List ℕ)) : Type 0 where
  pub replaced : (f : List ℕ → List ℕ) → replaced_by f (phrase_text rs rest) ≡ spelled_by f rs ++ rest
  pub whole_is : whole ≡ whole_reference (phrase_text rs rest)

-- the references of a text that were found so far, and the text in which the search goes on
pub record AreFirstReferences (text : List ℕ) (rs : List Reference) (rest : List ℕ) : Type 0 where
  pub replaced : (f : List ℕ → List ℕ) → spelled_by f rs ++ replaced_by f rest ≡ replaced_by f text
  pub joined : phrase_text rs rest ≡ text
