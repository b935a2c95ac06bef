use Rattle.mds_out.proofs.Crash.{steps_give_images, images_come_by_step}
use Rattle.mds_out.proofs.disk.crash_images_law.Goals as goal

pub returns-clause-steps_give_images : goal.returns-clause-steps_give_images
returns-clause-steps_give_images c = steps_give_images

pub returns-clause-images_come_by_step : goal.returns-clause-images_come_by_step
returns-clause-images_come_by_step c = images_come_by_step
