-- Scaffold: The parts of contents are smaller than they: what their models owe.
use Rattle.std.specs.Prelude.{◌≤◌, List, [], ◌∷◌, map, max}
use Rattle.std.proofs.Common.{arith}
use denote.Param.Weighed.{most}
use Rattle.cacao_json.specs.Tree.{items_of, members_of}
use Rattle.cacao_json.specs.Size.{size, items_size, members_size}
use Rattle.flow_core_texts.specs.declared.contents.Content.{Content}
use Rattle.flow_core_texts.specs.declared.contents.Content.TheVariants as content
use Rattle.flow_core_texts.specs.declared.contents.Entry.{Entry}
use Rattle.flow_core_texts.specs.declared.contents.Contents.TheDeep.{deep-Content, deep-Entry}
use Rattle.flow_core_texts.specs.Contents.{content_data, entry_data}

content_falls : (c : Content) → deep-Content c ≤ size (content_data c)
content_falls content.Null = omega arith
content_falls (content.Flag b) = omega arith
content_falls (content.Whole z) = omega arith
content_falls (content.Text phrase) = omega arith
content_falls (content.List items) = omega arith
content_falls (content.Members entries) = omega arith

pub contents_fall : (cs : List Content) → max (most deep-Content cs) 0 ≤ items_size (items_of (map content_data cs))
contents_fall [] = omega arith
contents_fall (c ∷ cs) = omega (arith, content_falls c, contents_fall cs)

pub entries_fall : (es : List Entry) → max (most deep-Entry es) 0 ≤ members_size (members_of (map entry_data es))
entries_fall [] = omega arith
entries_fall (e ∷ es) = omega (arith, content_falls e.content, entries_fall es)
