use Rattle.std.proofs.Common.{◌∙◌, ◌++◌, ◌∷◌, [], ap, codes, true, false}
use Rattle.serde_json.specs.Data.{member, no_members, object}
use Rattle.serde_json.specs.Written.{compact_text, members_text}
use Rattle.asm_journal.specs.Shape.{number_json_of}
use Rattle.asm_journal.specs.Text.{state_json_of}
use Rattle.asm_journal.proofs.Spelt.{member_more, opened}
use Rattle.asm_journal.proofs.writing.Numbers.header_line.Goals as goal

pub returns : goal.returns
returns c =
    let h = c.args.self.now in
    let version = member (codes "version") (number_json_of 2) no_members in
    let init = member (codes "init") (state_json_of h.init.now) version in
    let events = member (codes "events") (number_json_of h.events) init in
    let capacity = member (codes "capacity") (number_json_of h.capacity) events in
    let agents = member (codes "agents") (number_json_of h.agents) capacity in
    let whole =
    c.in_ok-push_sign-2.ensures
    ∙ member_more _ _ true (codes "version") (number_json_of 2) no_members c.in_ok-push_member-5.ensures
    ∙ member_more _ _ true (codes "init") (state_json_of h.init.now) version c.in_ok-push_member-4.ensures
    ∙ member_more _ _ true (codes "events") (number_json_of h.events) init c.in_ok-push_member-3.ensures
    ∙ member_more _ _ true (codes "capacity") (number_json_of h.capacity) events c.in_ok-push_member-2.ensures
    ∙ member_more _ _ false (codes "agents") (number_json_of h.agents) capacity c.in_ok-push_member.ensures
    ∙ opened _ _ 123 (members_text false agents) c.in_ok-push_sign.ensures
    ∙ ap (λ l. l ++ compact_text (object agents)) c.in_ok-text.ensures.bytes in
    c.in_ok-push_sign-3.ensures ∙ ap (λ l. l ++ 10 ∷ []) whole
