-- Scaffold: Contents of commands whose references were found once.
use Rattle.std.specs.Prelude.{ℕ, List}
use Rattle.serde_json.specs.Data.{Data, null, boolean, number, string, array, object}
use Rattle.serde_json.specs.Find.{of_integer}
use Rattle.flow_core_texts.specs.declared.contents.Content.{Content}
use Rattle.flow_core_texts.specs.declared.contents.Content.TheVariants as content
use Rattle.flow_core_texts.specs.declared.contents.Entry.{Entry}

-- the tree whose texts are read
abbrev pub content_data : Content → Data
content_data content.Null = null
content_data (content.Flag b) = boolean b
content_data (content.Whole z) = number (of_integer z)
content_data (content.Text phrase) = string phrase
content_data (content.List items) = array items
content_data (content.Members entries) = object entries

abbrev pub entry_data : Entry → List ℕ × Data
entry_data e = (e.name, content_data e.content)
