pub mod BusyLemmas
