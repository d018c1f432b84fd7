use Rattle.joined_theorem.proofs.OwnIds.{own_id}
use Rattle.joined_theorem.proofs.ids.ids_of_a_file_are_of_one_channel.Goals as goal

pub returns : goal.returns
returns g c = λ named channels numbered parts have id some.
    own_id channels (c.channels_of_a_file_are_named_once.ensures.apart named channels numbered)
    (c.channels_of_a_file_are_named_once.ensures.once named channels numbered) id some parts have
