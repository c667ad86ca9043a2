-- Whether all workers have exited, failed or sleep, one worker at a time.
pub mod Over
