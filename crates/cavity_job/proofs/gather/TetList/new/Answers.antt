-- `cavity_job::gather::TetList::new` meets its contract. Assumes nothing.
use Rattle.cavity_job.proofs.CavityLists.PickedTets.{no_tets}
use Rattle.cavity_job.proofs.gather.TetList.new.Goals as goal

pub returns : goal.returns
returns c = no_tets
