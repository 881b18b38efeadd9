use Rattle.lvl_job.proofs.said.say_words.Goals as goal

pub returns-in-LiftLimits : goal.returns-in-LiftLimits
returns-in-LiftLimits g c = rw c.in-LiftLimits.is c.say_more.ensures

pub returns-in-Foreign : goal.returns-in-Foreign
returns-in-Foreign g c = rw c.in-Foreign.is c.say_more-in-Foreign.ensures

pub returns-in-ReadBlocks : goal.returns-in-ReadBlocks
returns-in-ReadBlocks g c = rw c.in-ReadBlocks.is c.say_more-in-ReadBlocks.ensures
