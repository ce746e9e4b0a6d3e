use Rattle.api_model.proofs.Objects.{same_obj-Decides}
use Rattle.api_model.proofs.laws.one_object_is_an_equal_one.Goals as goal

pub returns : goal.returns
returns c = same_obj-Decides
