-- A content that is given as base64 is what it decodes to.
use Rattle.std.proofs.Common.{◌≡◌, Some, refl}
use Rattle.std.specs.Prelude.{codes}
use Rattle.base64.specs.Decode.{groups_error, groups_bytes, scan_steps}
use Rattle.base64.specs.GeneralPurpose.{decoded_of}
use Rattle.serde_json.specs.Data.{string, object, member, no_members}
use Rattle.cacao_book.specs.Books.{command_of}

query_content : (command_of (object (member (codes "content_b64") (string (codes "eyJhY3Rpb24iOiJxdWVyeSIsInRhcmdldCI6eyJmZWF0dXJlcyI6W119fQ==")) (member (codes "type") (string (codes "openc2-http")) no_members)))).content
    ≡ Some (codes "{\"action\":\"query\",\"target\":{\"features\":[]}}")
unfolding decoded_of groups_error groups_bytes scan_steps
query_content = refl
