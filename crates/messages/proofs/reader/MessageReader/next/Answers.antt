use Rattle.std.proofs.Common.{◌≡◌, Some, refl, subst, Option, rules}
use Rattle.messages.specs.declared.message.Message.{Message}
use Rattle.messages.specs.Reading.{Says}
use Rattle.messages.proofs.Placing.{placed_next}
use Rattle.messages.proofs.reader.MessageReader.next.Goals as goal

pub returns-clause-next : goal.returns-clause-next
returns-clause-next c =
    let frame = c.in-Some.field-0 in
    let said : c.message_in.result ≡ Some c.in_ok-message.message = search rules in
    let says : Says frame.tag frame.value.now c.message_in.result = search rules in
    placed_next _ _ _ _ frame _ c.in_ok-tag.ensures.next c.in-Some.is (subst (λ (o : Option Message). Says frame.tag frame.value.now o) said says) refl
