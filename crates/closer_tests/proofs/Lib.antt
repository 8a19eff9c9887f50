pub mod OtherBids
