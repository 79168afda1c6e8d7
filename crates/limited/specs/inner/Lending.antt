-- The job that a run is lent. Assumes nothing: this is a definition.
use Rattle.laws.specs.Laws.{Job}
use Rattle.laws.specs.Check.{job}
use Rattle.fillings.specs.Lent.{lent_job}
use Rattle.limited.specs.declared.survey.Survey.{Survey}

abbrev pub job_of : Survey → Job
job_of s = job (lent_job s.lists.now s.ints.now)
