mod ReportLemmas
mod TurningLemmas
