use Rattle.element_place.proofs.Deciding.{is_element_place-Decides}
use Rattle.element_place.proofs.place.tested_places_are_those_of_elements.Goals as goal

pub returns : goal.returns
returns c = is_element_place-Decides
