use Rattle.std.proofs.Common.{◌++◌, inl, inr, refl}
use Rattle.vg_top.proofs.Printing.{answers_done, answers_stopped, began_done, outputs_after, exactly_done, exactly_stopped, exactly_words}
use Rattle.vg_top.proofs.top.run.Goals as goal

-- words that are not those of a run

pub returns-in-Err-clause-answers : goal.returns-in-Err-clause-answers
returns-in-Err-clause-answers g c = answers_stopped _ _ c.in-Err.stop (inl (c.in-Err.ensures.refused, refl)) c.refuse.ensures.prints

pub returns-in-Err-clause-exactly : goal.returns-in-Err-clause-exactly
returns-in-Err-clause-exactly g c = exactly_words _ c.in-Err.stop c.in-Err.ensures.refused c.refuse.ensures.prints

-- a run that was done

pub returns-in-Ok-run_files-clause-answers : goal.returns-in-Ok-run_files-clause-answers
returns-in-Ok-run_files-clause-answers g c =
    answers_done _ _ c.in-Ok-run_files.report c.in-Ok.ensures.run c.in-Ok-run_files.ensures.done
    (rw (c.as_str.ensures.value, c.report_text.ensures) at c.print.ensures.prints)

pub returns-in-Ok-run_files-clause-exactly : goal.returns-in-Ok-run_files-clause-exactly
returns-in-Ok-run_files-clause-exactly g c = exactly_done _ _ c.in-Ok-run_files.report c.in-Ok.ensures.run c.in-Ok-run_files.ensures.done c.print.ensures.prints

pub returns-in-Ok-run_files-clause-outputs : goal.returns-in-Ok-run_files-clause-outputs
returns-in-Ok-run_files-clause-outputs g c = inr (began_done _ _ c.in-Ok-run_files.report c.in-Ok.ensures.run c.in-Ok-run_files.ensures.done)

-- a run that stopped

pub returns-in-Err-run_files-clause-answers : goal.returns-in-Err-run_files-clause-answers
returns-in-Err-run_files-clause-answers g c =
    answers_stopped _ _ c.in-Err-run_files.stop (inr (_, c.in-Ok.ensures.run, c.in-Err-run_files.ensures.stops)) c.refuse-in-Err-run_files.ensures.prints

pub returns-in-Err-run_files-clause-exactly : goal.returns-in-Err-run_files-clause-exactly
returns-in-Err-run_files-clause-exactly g c = exactly_stopped _ _ c.in-Err-run_files.stop c.in-Ok.ensures.run c.in-Err-run_files.ensures.stops
    c.refuse-in-Err-run_files.ensures.prints

pub returns-in-Err-run_files-clause-outputs : goal.returns-in-Err-run_files-clause-outputs
returns-in-Err-run_files-clause-outputs g c = outputs_after _ _ c.in-Err-run_files.stop c.in-Ok.ensures.run c.in-Err-run_files.ensures.stops
