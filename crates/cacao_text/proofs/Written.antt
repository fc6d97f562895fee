-- What a writer gives for the tokens of data is its canonical text.
use Rattle.std.proofs.Common.{◌≡◌, ℕ, List, [], ◌++◌, sym, ap, ◌∙◌}
use Rattle.json.specs.Print.{print}
use Rattle.json.specs.Written.{Written}
use Rattle.serde_json.specs.Data.{Data}
use Rattle.serde_json.proofs.Texts.{print-outline}
use Rattle.cacao_text.specs.Canon.{canon}
use Rattle.cacao_text.specs.Arranged.{arranged, value_tokens, Adds}
use Rattle.cacao_text.proofs.Compact.{canon-compact_text}

pub print-value_tokens : (d : Data) → print (value_tokens d) ≡ canon d
print-value_tokens d = print-outline (arranged d) ∙ sym (canon-compact_text d)

pub written : (old new : Written) (d : Data) (text : List ℕ) → old.before ≡ [] → old.tokens ≡ [] → Adds old new (value_tokens d) → text ≡ new.before ++ print new.tokens → text ≡ canon d
written old new d text before tokens adds e =
    e ∙ ap (λ b. b ++ print new.tokens) (adds.0 ∙ before) ∙ ap print (adds.1 ∙ ap (λ ts. ts ++ value_tokens d) tokens) ∙ print-value_tokens d
