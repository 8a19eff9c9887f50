pub mod Takes
pub mod ArcLines
pub mod TakeCharts
pub mod TakeLabels
pub mod TakeRooms
pub mod DrawnGraphs
